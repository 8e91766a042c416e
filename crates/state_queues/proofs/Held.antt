-- What owning an array of entries tells: there are as many as its type says, and each slot is one that its type holds. Assumes nothing.
use Prim.Native.Nat.{ℕ}
use mathlib.Core.Path.{◌≡◌, sym, ◌∙◌}
use mathlib.Core.List.{List, [], ◌∷◌, map}
use mir.Val.{Val}
use denote.Shadow.{shadow}
use denote.Array.{each}
use lib.ListN.{length, length-map}
use Rattle.queue.specs.contracts.Entry as entry
use Rattle.queue.specs.declared.Entry.{Entry}
use Rattle.state.proofs.Records.{Slots}

pub counted : {A B : Type 0} (f : A → B) (l : List A) (n : ℕ) → length (map f l) ≡ n → length l ≡ n
counted f l n h = sym (length-map l f) ∙ h

pub held : (es : List Entry) (us : List Val)
    → shadow (each (entry.the_row).Denot (entry.the_row).own_val es us) → Slots es
held [] us s = tt
held (e ∷ es) [] s = absurd s
held (e ∷ es) (u ∷ us) s = (s.0.1.1.0.1.1.0.1, held es us s.1)
