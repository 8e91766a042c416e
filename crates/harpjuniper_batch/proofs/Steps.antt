-- The steps of a turn give its promise. Assumes nothing.
use Prim.Native.Nat.{ℕ}
use mathlib.Core.Path.{◌≡◌, subst}
use mathlib.Core.List.{List}
use lib.ListN.{length}
use Rattle.routes.specs.declared.Record.{Record}
use Rattle.judge.specs.declared.Asked.{Asked}
use Rattle.listing.specs.declared.Query.{Query}
use Rattle.listing.specs.declared.Scan.{Scan}
use Rattle.listing.specs.Scan.{scan_of}
use Rattle.batch.specs.declared.Progress.{Progress}
use Rattle.relay.specs.Split.{query_of}
use Rattle.batch.specs.Turn.{Asks, Finishes, ItemHeard}

module _ (b w : List ℕ) (rs : List Record) (lengths ports slots seconds octets answers output : List ℕ) (i : ℕ) (at : Progress) where
  pub heard : (a : Asked) → Asks b w (length rs) lengths ports seconds octets i a → (q : Query) → q ≡ query_of a → (s : Scan) → s ≡ scan_of q rs
      → (next : Progress) (words told left : List ℕ) → Finishes b w lengths slots seconds octets answers output i at a s next words told left
      → ItemHeard b w rs lengths ports slots seconds octets answers output i at next words told left
  heard a ea q eq s es next words told left h =
      let F : Asked → Scan → Type 0 = λ x y. Finishes b w lengths slots seconds octets answers output i at x y next words told left in
      subst (λ (x : Asked). F x (scan_of (query_of x) rs)) ea (subst (λ (x : Query). F a (scan_of x rs)) eq (subst (F a) es h))
