-- An item's octets, and its stretch of the output. Assumes nothing.
use native.Mathlib.Omega.{arith}
use Prim.Native.Nat.{ℕ, suc, ◌+◌, ◌-◌, ◌*◌, ◌≤◌}
use mathlib.Core.Path.{◌≡◌, sym, ap, ap₂, ◌∙◌}
use mathlib.Core.List.{List, ◌++◌}
use lib.ListN.{length, get_or, take, drop, length-drop, take-append-drop}
use lib.Seq.{length-take-le, drop-drop}
use borrow.Rule.Slice.PartMut.{put_mid}
use Rattle.octets.specs.Octets.{pasted}
use Rattle.judge.specs.declared.Asked.{Asked}
use Rattle.judge.specs.Ending.{output_room}
use Rattle.relay.specs.Split.{asked_of}
use Rattle.batch.specs.Items.{octets_at, room_at}
use Rattle.batch.specs.Turn.{ItemWithin, Asks}
use Rattle.batch.specs.declared.Progress.{Progress}
use Rattle.batch.proofs.Sums.{start_next}

-- ---- the octets
module _ (lengths : List ℕ) (octets : List ℕ) (i : ℕ) (at : Progress) (w : ItemWithin lengths (length octets) i at) where
  pub item_fits : at.from + get_or lengths i 0 ≤ length octets
  item_fits = omega (arith, w.stands, w.ends, start_next lengths i)

  -- cut out from where it begins to where it ends
  pub item_octets : take (at.from + get_or lengths i 0 - at.from) (drop at.from octets) ≡ octets_at lengths octets i
  item_octets =
      let n : at.from + get_or lengths i 0 - at.from ≡ get_or lengths i 0 = omega arith in
      ap₂ (λ (k from : ℕ). take k (drop from octets)) n w.stands

  pub asked_item : (b w ports seconds : List ℕ) (routes : ℕ) {a : Asked}
      → a ≡ asked_of b w routes (get_or ports i 0) (get_or seconds i 0) (take (at.from + get_or lengths i 0 - at.from) (drop at.from octets)) output_room
      → Asks b w routes lengths ports seconds octets i a
  asked_item b w ports seconds routes e = e ∙ ap (λ (l : List ℕ). asked_of b w routes (get_or ports i 0) (get_or seconds i 0) l output_room) item_octets

-- ---- the output
module _ (output : List ℕ) (i : ℕ) (room : output_room * suc i ≤ length output) where
  pub room_length : length (room_at output i) ≡ output_room
  room_length = length-take-le output_room (drop (output_room * i) output) (omega (arith, room, length-drop (output_room * i) output))

  -- cut out from where it begins to where it ends
  pub room_cut : take (output_room * i + output_room - output_room * i) (drop (output_room * i) output) ≡ room_at output i
  room_cut =
      let n : output_room * i + output_room - output_room * i ≡ output_room = omega arith in
      ap (λ (k : ℕ). take k (drop (output_room * i) output)) n

  -- what is written there is pasted
  pub room_written : (mid : List ℕ) → length mid ≡ output_room
      → put_mid (output_room * i) (output_room * i + output_room - output_room * i) output mid ≡ pasted output (output_room * i) mid
  unfolding pasted
  room_written mid long =
      let n : output_room * i + output_room - output_room * i ≡ length mid = omega (arith, long) in
      ap (λ (l : List ℕ). take (output_room * i) output ++ (mid ++ l))
      (ap (λ (k : ℕ). drop k (drop (output_room * i) output)) n ∙ drop-drop (length mid) (output_room * i) output)

  -- and what stands there already changes nothing
  pub room_kept : output ≡ pasted output (output_room * i) (room_at output i)
  unfolding pasted
  room_kept =
      let rest = drop (output_room * i) output in
      let n : output_room * i + length (room_at output i) ≡ output_room * i + output_room = omega (arith, room_length) in
      sym
      (ap (λ (k : ℕ). take (output_room * i) output ++ (room_at output i ++ drop k output)) n
      ∙ ap (λ (l : List ℕ). take (output_room * i) output ++ (room_at output i ++ l)) (sym (drop-drop output_room (output_room * i) output))
      ∙ ap (λ (l : List ℕ). take (output_room * i) output ++ l) (take-append-drop output_room rest)
      ∙ take-append-drop (output_room * i) output)
