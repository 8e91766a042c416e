-- A header is read exactly where it passes every check (page 01, steps 2 and 3). Assumes nothing.
use Prim.Native.Nat.{ℕ, ◌/◌, ◌≤◌}
use mathlib.Core.Path.{◌≡◌}
use mathlib.Core.List.{List}
use mathlib.Core.Bool.{false}
use lib.ListN.{length}
use lib.Dec.{eqb, ltb}
use borrow.Author.Tests.{eqb-true, ltb-false, eq-eqb, le-ltb}
use Rattle.checks.proofs.Bools.{or_false, not-false, and_not_false, and_not}
use Rattle.octets.specs.Octets.{octet, number}
use Rattle.checksum.specs.Sum.{element_of}
use Rattle.header.specs.Form.{control_of, places_of, forbidden, has_checksum}
use Rattle.header.specs.Read.{length_of, header_of, read_checks, read_of, other_version, misfit, wrong_checksum}
use Rattle.header.specs.declared.Header.{Header}
use Rattle.checks.specs.Told.{Good}
use Rattle.header.proofs.Refusals.{read_good}

pub record Passed (s : List ℕ) (h : Header) : Type 0 where
  pub long : 3 ≤ length s
  pub version : octet s 0 / 32 ≡ 1
  pub whole : (control_of s).end ≤ length s
  pub allowed : forbidden (control_of s) ≡ false
  pub inside : length_of s ≤ length s
  pub fits : (places_of s).size ≤ length_of s
  pub right : has_checksum (control_of s) ≡ 1 → number s (places_of s).checksum 2 ≡ element_of s (places_of s).checksum
  pub is : h ≡ header_of s

pub passed : (s : List ℕ) (h : Header) → read_of s ≡ Good h → Passed s h
unfolding read_checks
passed s h e =
    let g = (read_good s h).0 e in
    let n = g.0 in
    let m = or_false (ltb (length s) (length_of s)) (ltb (length_of s) (places_of s).size) n.1.1.1.1.0 in
    record {
      long = ltb-false (length s) 3 n.0;
      version = eqb-true (octet s 0 / 32) 1 (not-false _ n.1.0);
      whole = ltb-false (length s) (control_of s).end n.1.1.0;
      allowed = n.1.1.1.0;
      inside = ltb-false (length s) (length_of s) m.0;
      fits = ltb-false (length_of s) (places_of s).size m.1;
      right = λ o. eqb-true _ _ (and_not_false _ _ n.1.1.1.1.1.0 (eq-eqb (has_checksum (control_of s)) 1 o));
      is = g.1;
    }

pub read_passed : (s : List ℕ) (h : Header) → Passed s h → read_of s ≡ Good h
unfolding read_checks
read_passed s h p =
    let k = control_of s in
    let l = places_of s in
    let version : other_version s ≡ false = simp (eq-eqb (octet s 0 / 32) 1 p.version) in
    let misfits : misfit s l ≡ false = simp (le-ltb (length s) (length_of s) p.inside, le-ltb (length_of s) l.size p.fits) in
    let right : wrong_checksum s k l ≡ false =
    and_not (eqb (has_checksum k) 1) (eqb (number s l.checksum 2) (element_of s l.checksum)) (λ o. eq-eqb _ _ (p.right (eqb-true (has_checksum k) 1 o))) in
    (read_good s h).1 ((le-ltb (length s) 3 p.long, (version, (le-ltb (length s) k.end p.whole, (p.allowed, (misfits, (right, tt)))))), p.is)
