-- The steps of the call give its promise. Assumes nothing.
use Prim.Native.Nat.{ℕ}
use mathlib.Core.Path.{◌≡◌, subst, ◌∙◌}
use mathlib.Core.List.{List}
use lib.ListN.{length}
use Rattle.routes.specs.declared.Record.{Record}
use Rattle.lent_state.specs.View.{lent}
use Rattle.listing.specs.declared.Query.{Query}
use Rattle.listing.specs.declared.Scan.{Scan}
use Rattle.listing.specs.Scan.{scan_of}
use Rattle.judge.specs.declared.Asked.{Asked}
use Rattle.relay.specs.Split.{asked_of, query_of, answer_after, words_after, output_after, Following}
use Rattle.relay.proofs.Hearing.{promised}
use Rattle.harpjuniper_receive.specs.Face.{receive_answer, receive_words, receive_output, Receives}

-- what `after` ensures of the answer, the mission's words and the output
abbrev pub Carried : List ℕ → List ℕ → ℕ → ℕ → List ℕ → List ℕ → ℕ → List ℕ → List ℕ → Asked → Scan → Type 0
Carried b w slot second octets output answer words left a s =
    (answer ≡ answer_after b w a s) × ((lent words ≡ words_after b w slot second a s) × (left ≡ output_after b w octets output a s))

pub follows : (b w : List ℕ) (second : ℕ) (octets : List ℕ) (room count port : ℕ) (a : Asked) → a ≡ asked_of b w count port second octets room
    → Following b w second octets room a
follows b w second octets room count port a e = record { count = count; port = port; asked = e }

module _ (b w : List ℕ) (rs : List Record) (port slot second : ℕ) (octets output : List ℕ) where
  abbrev asked : Asked
  asked = asked_of b w (length rs) port second octets (length output)

  pub received : (answer : ℕ) (words left : List ℕ) (a : Asked) (q : Query) (s : Scan) → a ≡ asked → q ≡ query_of a → s ≡ scan_of q rs
      → Carried b w slot second octets output answer words left a s → Receives b w rs port slot second octets output answer words left
  unfolding receive_answer receive_words receive_output
  received answer words left a q s ea eq es h =
      let C : Asked → Scan → Type 0 = Carried b w slot second octets output answer words left in
      let c = subst (λ (x : Asked). C x (scan_of (query_of x) rs)) ea (subst (λ (x : Query). C a (scan_of x rs)) eq (subst (C a) es h)) in
      let p = promised b w rs port slot second octets output in
      (c.0 ∙ p.0, (c.1.0 ∙ p.1.0, c.1.1 ∙ p.1.1))
