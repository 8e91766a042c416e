-- What an item sends on has the 400 octets of its stretch, and pasted there it leaves the stretches behind it as they were. Assumes nothing.
use native.Mathlib.Omega.{arith}
use Prim.Native.Nat.{ℕ, zero, suc, ◌+◌, ◌≤◌, ◌<◌}
use mathlib.Core.Path.{◌≡◌, refl, sym, ap, ◌∙◌}
use mathlib.Core.Bool.{Bool, true, false}
use mathlib.Core.List.{List, ◌++◌, append_assoc}
use lib.Dec.{eqb}
use lib.ListN.{length, take, drop, length-append, length-drop}
use lib.Seq.{length-take-le, drop_at}
use borrow.Author.Tests.{eqb-true, eqb-false, ne_eqb}
use Rattle.checks.proofs.Laws.{either}
use Rattle.octets.specs.Octets.{pasted}
use Rattle.sets.specs.Sets.{in_set}
use Rattle.header.specs.Limits.{longest_header}
use Rattle.header.specs.Form.{places_of}
use Rattle.header.specs.Read.{header_of, fields_of}
use Rattle.header.proofs.Bounds.{header_size}
use Rattle.header.proofs.BuiltLaws.{header_length}
use Rattle.header.proofs.SentOn.{sent_length}
use Rattle.next_leg.specs.Leg.{asks_checksum, rewrites, next_fields, data_of, next_header, header_for}
use Rattle.next_leg.specs.declared.Legs.{Legs}
use Rattle.next_leg.proofs.Made.{checksum_case, small_size}
use Rattle.judge.specs.declared.Asked.{Asked}
use Rattle.judge.specs.declared.Ending.{Ending}
use Rattle.judge.specs.Asked.{finished_of}
use Rattle.judge.specs.Ending.{output_room}
use Rattle.listing.specs.declared.Scan.{Scan}
use Rattle.relay.specs.Outgoing.{stretch_of, sent_if, sent_below, sent_output}
use Rattle.relay.specs.Split.{ending_after, output_after, Following}
use Rattle.relay.proofs.Asking.{judged_read}
use Rattle.relay.proofs.outgoing.Headers.{took_none}

-- ---- one piece over a list that has room for it
module _ (l vs : List ℕ) (at : ℕ) (room : at + length vs ≤ length l) where
  front : length (take at l) ≡ at
  front = length-take-le at l (omega (arith, room))

  pub pasted_length : length (pasted l at vs) ≡ length l
  unfolding pasted
  pasted_length = simp (length-append, length-drop, front) (omega (arith, room))

  pub pasted_rest : drop (at + length vs) (pasted l at vs) ≡ drop (at + length vs) l
  unfolding pasted
  pasted_rest =
      ap (drop (at + length vs)) (sym (append_assoc (take at l) vs (drop (at + length vs) l)))
      ∙ drop_at (take at l ++ vs) (drop (at + length vs) l) (at + length vs) (simp (length-append, front))

-- ---- a header has 50 octets at the most, whatever the octets are
module _ (far : Bool) (arrival code : ℕ) (octets : List ℕ) (inside : (places_of octets).size ≤ length octets) where
  checksum_few : (next_fields far arrival code (header_of octets).fields).checksum < 2
  unfolding next_fields header_of fields_of
  checksum_few = checksum_case (asks_checksum code) _ (omega arith)

  pub next_fits : length (next_header far arrival code octets) ≤ longest_header
  unfolding next_header
  next_fits =
      let f = next_fields far arrival code (header_of octets).fields in
      either (λ (l : List ℕ). length l ≤ longest_header) (rewrites far code (header_of octets).fields)
      (omega (arith, header_length f (data_of (header_of octets)) checksum_few, small_size f checksum_few))
      (omega (arith, sent_length octets inside, header_size octets))

-- ---- the headers of the first n ports, in their stretches
module _ (took : ℕ) (l : Legs) (octets : List ℕ) (inside : (places_of octets).size ≤ length octets) (lent : List ℕ) where
  one_length : (p : ℕ) (x : List ℕ) → stretch_of p + longest_header ≤ length x → length (sent_if took l octets p x) ≡ length x
  unfolding sent_if
  one_length p x room =
      either (λ (y : List ℕ). length y ≡ length x) (in_set p took)
      (pasted_length x (header_for l octets p) (stretch_of p)
      (omega (arith, room, next_fits (in_set p l.far) l.arrival.0 l.code octets inside))) refl

  pub below_length : (n : ℕ) → stretch_of n ≤ length lent → length (sent_below took l octets lent n) ≡ length lent
  unfolding sent_below
  below_length zero room = refl
  below_length (suc p) room =
      let same = below_length p (omega (arith, room)) in
      one_length p (sent_below took l octets lent p) (omega (arith, room, same)) ∙ same

-- ---- an item's output
module _ (b w octets output : List ℕ) (second : ℕ) (a : Asked) (s : Scan) (f : Following b w second octets output_room a)
    (long : length output ≡ output_room) where
  refused_quiet : (a.refusal ≡ 0 → ⊥) → (ending_after b w a s).ruling.took ≡ 0
  unfolding ending_after finished_of
  refused_quiet some = simp (ne_eqb a.refusal 0 some)

  pub after_length : length (output_after b w octets output a s) ≡ output_room
  unfolding sent_output
  after_length = by_refusal (eqb a.refusal 0) refl ∙ long
    where
      e : Ending
      e = ending_after b w a s

      by_refusal : (t : Bool) → eqb a.refusal 0 ≡ t → length (sent_below e.ruling.took e.legs octets output 8) ≡ length output
      by_refusal true is =
          let read = judged_read b w second octets output_room a f (eqb-true a.refusal 0 is) in
          below_length e.ruling.took e.legs octets read.1.inside output 8 (omega (arith, long))
      by_refusal false is = ap length (sym (took_none e.ruling.took e.legs octets output (refused_quiet (eqb-false a.refusal 0 is))))
