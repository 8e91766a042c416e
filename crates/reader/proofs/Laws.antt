-- What is known behind the control field, said over plain variables, and what is then found. Assumes nothing.
use Prim.Native.Nat.{ℕ, ◌≤◌}
use mathlib.Core.Path.{◌≡◌, sym, ap, ◌∙◌}
use mathlib.Core.List.{List}
use mathlib.Core.Bool.{false}
use Rattle.std.specs.Prelude.{Result, Ok}
use lib.ListN.{length}
use lib.Dec.{ltb}
use native.Mathlib.Omega.{arith}
use borrow.Author.Tests.{ltb-false}
use Rattle.checks.specs.Order.{NoneHolds, numbered, outcome}
use Rattle.checks.proofs.Bools.{or_false}
use Rattle.checks.proofs.Laws.{ok_none, ok_value, none_ok}
use Rattle.header.specs.Form.{control_of, layout_of, places_of, forbidden, has_hops, has_checksum}
use Rattle.header.specs.Onward.{renewal_of}
use Rattle.header.specs.Read.{fields_of, length_of, header_of, read_refusals, other_version, cut, misfit, wrong_checksum}
use Rattle.checks.specs.declared.Refusal.{Refusal}
use Rattle.header.specs.declared.Header.{Header}
use Rattle.header.specs.declared.Control.{Control}
use Rattle.header.specs.declared.Layout.{Layout}
use Rattle.header.specs.declared.Fields.{Fields}
use Rattle.header.specs.declared.Renewal.{Renewal}
use Rattle.header.proofs.Bounds.{control_end}
use Rattle.reader.specs.Stages.{front_refusals, front_of}

-- past the checks of the control field
pub record Formed (s : List ℕ) (k : Control) : Type 0 where
  pub long : ltb (length s) 3 ≡ false
  pub version : other_version s ≡ false
  pub control : k ≡ control_of s
  pub whole : cut s k ≡ false
  pub allowed : forbidden k ≡ false

pub formed : (s : List ℕ) (k : Control) → front_of s ≡ Ok k → Formed s k
formed s k e =
    let none = ok_none (front_refusals s) (control_of s) k e in
    let is = ok_value (front_refusals s) (control_of s) k e in
    record { long = none.0; version = none.1.0; control = is; whole = rw is none.1.1.0; allowed = rw is none.1.1.1.0 }

-- and of the length field
pub record Laid (s : List ℕ) (k : Control) (l : Layout) : Type 0 where
  pub formed : Formed s k
  pub layout : l ≡ layout_of s k
  pub fits : misfit s l ≡ false

module _ (s : List ℕ) (k : Control) where
  pub control_small : front_of s ≡ Ok k → k.end ≤ 5
  control_small e = rw (formed s k e).control (control_end s).1

  module _ (l : Layout) (p : Laid s k l) where
    places : l ≡ places_of s
    places = p.layout ∙ ap (layout_of s) p.formed.control

    -- the header lies within the octets lent
    pub inside : l.size ≤ length s
    inside =
        let m = or_false (ltb (length s) (length_of s)) (ltb (length_of s) l.size) p.fits in
        let a = ltb-false (length s) (length_of s) m.0 in
        let b = ltb-false (length_of s) l.size m.1 in
        omega arith

    pub good : wrong_checksum s k l ≡ false → (f : Fields) (n : ℕ) (r : Renewal) → f ≡ fields_of s k l → n ≡ length_of s
        → r ≡ record { hops = l.hops; counted = has_hops k; checksum = l.checksum; summed = has_checksum k }
        → ◌≡◌ {A = Result (Header × Renewal) Refusal} (Ok (record { fields = f; length = n; size = l.size }, r)) (outcome (read_refusals s) (header_of s, renewal_of s))
    unfolding header_of renewal_of
    good h f n r ef en er =
        let e = p.formed.control in
        let none : NoneHolds (numbered (read_refusals s)) =
        (p.formed.long, (p.formed.version, (rw e at p.formed.whole, (rw e at p.formed.allowed, (rw places at p.fits, (rw (places, e) at h, tt)))))) in
        rw (ef, en, er, places, e) (sym (none_ok (read_refusals s) (header_of s, renewal_of s) none))
