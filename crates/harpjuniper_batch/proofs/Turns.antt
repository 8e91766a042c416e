-- The turns of the call's loop: what holds before each item, and after the last one is what the call promises. Assumes nothing.
use native.Mathlib.Omega.{arith}
use native.Mathlib.Numerals.{add-one}
use Prim.Native.Nat.{ℕ, suc, ◌+◌, ◌*◌, ◌≤◌, ◌<◌}
use mathlib.Core.Path.{◌≡◌, refl, sym, ap, ap₂, ◌∙◌}
use mathlib.Core.List.{List}
use lib.ListN.{length, get_or, set, take, drop, length-set}
use lib.Seq.{drop-drop}
use Rattle.octets.specs.Octets.{pasted}
use Rattle.routes.specs.declared.Record.{Record}
use Rattle.state.specs.Seen.{Board, State}
use Rattle.lent_state.specs.View.{Lent, lent}
use Rattle.listing.specs.declared.Scan.{Scan}
use Rattle.listing.specs.Scan.{scan_of}
use Rattle.judge.specs.declared.Asked.{Asked}
use Rattle.judge.specs.Ending.{output_room}
use Rattle.judge.specs.Remembered.{remembered_by}
use Rattle.relay.specs.Received.{received_state}
use Rattle.relay.specs.Hearing.{answered_in, held_in, sent_in}
use Rattle.relay.specs.Split.{Naming, asked_of, query_of, ending_after, output_after, Following}
use Rattle.batch.specs.Items.{Lists, start_of, octets_at, room_at}
use Rattle.batch.specs.Many.{items_held, items_answered, items_sent, items_heard, many_refusal, many_heard}
use Rattle.batch.specs.Turn.{begun_progress, ItemWithin, Planned, Asks, Hearable, ItemHeard}
use Rattle.batch.specs.declared.Plan.{Plan}
use Rattle.batch.specs.declared.Progress.{Progress}
use Rattle.batch.proofs.Sums.{starts, start_more, start_later}
use Rattle.batch.proofs.Planning.{naming, Unrefused, unrefused, some_heard}
use Rattle.batch.proofs.Stretches.{room_length}
use Rattle.batch.proofs.Sent.{pasted_length, pasted_rest, after_length}
use Rattle.batch.proofs.Heard.{turn_answers, turn_holds, turn_sends}
use Rattle.batch.proofs.Missions.{SameMission, both_same, still_named}
use Rattle.harpjuniper_batch.specs.Face.{ReceivesMany}

module _ (b w : List ℕ) (rs : List Record) (x : Lists) (answers output : List ℕ) (p : Plan) where
  -- what holds before item i: where the loop stands, and what the words ws, the answers ts and the output us are by then
  pub record Inv (i : ℕ) (at : Progress) (ws ts us : List ℕ) : Type 0 where
    pub within : i ≤ p.items
    pub refuses : p.refusal ≡ many_refusal rs x answers output
    pub hears : p.items ≡ items_heard p.refusal (length x.lengths)
    pub stands : at.from ≡ start_of x.lengths i
    pub named : Naming b ws p.names
    pub held : lent ws ≡ items_held b (lent w) rs x i
    pub told : ts ≡ items_answered b (lent w) rs x answers i
    pub left : us ≡ items_sent b (lent w) rs x output i
    pub many : length ts ≡ length answers
    pub long : length us ≡ length output
    pub rest : drop (output_room * i) us ≡ drop (output_room * i) output

  pub begins : Planned b w x.lengths (length rs) (length x.ports) (length x.slots) (length x.seconds) (length x.octets) (length answers) (length output) p
      → (at : Progress) → at ≡ begun_progress → Inv 0 at w answers output
  unfolding many_refusal items_held items_answered items_sent
  begins planned at is =
      record {
        within = omega arith;
        refuses = planned.0;
        hears = planned.1.0;
        stands = ap (λ (y : Progress). y.from) is ∙ sym (starts x.lengths);
        named = naming b w p.refusal p.names planned.1.1;
        held = refl;
        told = refl;
        left = refl;
        many = refl;
        long = refl;
        rest = refl;
      }

  module _ (i : ℕ) (at : Progress) (ws ts us : List ℕ) (inv : Inv i at ws ts us) where
    -- item i: by which port, in which slot and second, and its octets
    abbrev port : ℕ
    port = get_or x.ports i 0

    abbrev slot : ℕ
    slot = get_or x.slots i 0

    abbrev second : ℕ
    second = get_or x.seconds i 0

    abbrev heard : List ℕ
    heard = octets_at x.lengths x.octets i

    follows : (a : Asked) → Asks b ws (length rs) x.lengths x.ports x.seconds x.octets i a → Following b ws second heard output_room a
    follows a asks = record { count = length rs; port = port; asked = asks }

    -- there is an item i: nothing refuses the call
    module _ (more : i < p.items) where
      good : Unrefused x.lengths (length x.ports) (length x.slots) (length x.seconds) (length x.octets) (length answers)
          (length output)
      unfolding many_refusal
      good =
          unrefused x.lengths (length rs) (length x.ports) (length x.slots) (length x.seconds) (length x.octets) (length answers)
          (length output) (sym inv.refuses ∙ (some_heard i p.items p.refusal (length x.lengths) inv.hears more).0)

      listed : i < length x.lengths
      listed = omega (arith, more, (some_heard i p.items p.refusal (length x.lengths) inv.hears more).1)

      item : ItemWithin x.lengths (length x.octets) i at
      item =
          record {
            inside = listed;
            stands = inv.stands;
            ends = omega (arith, good.inside, start_later x.lengths (suc i) (length x.lengths) listed);
          }

      -- its stretch of the output is as it was lent
      wide : output_room * suc i ≤ length us
      wide = omega (arith, good.wide, inv.long, listed)

      room_lent : room_at us i ≡ room_at output i
      room_lent = ap (take output_room) inv.rest

      room_long : length (room_at us i) ≡ output_room
      room_long = room_length us i wide

    pub hearable : i < p.items → Hearable b ws (length rs) x.lengths x.ports x.slots x.seconds x.octets ts us i at p
    hearable more = (
      (item more, ((good more).as_ports, ((good more).as_seconds, inv.named))),
      λ a asks. (item more, ((good more).as_slots, ((good more).as_seconds, (inv.many ∙ (good more).as_answers, (wide more, follows a asks))))),
    )

    -- ---- item i is heard
    module _ (more : i < p.items) (at' : Progress) (ws' ts' us' : List ℕ)
        (done : ItemHeard b ws rs x.lengths x.ports x.slots x.seconds x.octets ts us i at at' ws' ts' us') where
      abbrev asked : Asked
      asked = asked_of b ws (length rs) port second heard output_room

      abbrev found : Scan
      found = scan_of (query_of asked) rs

      -- what it sends on has the octets of its stretch
      abbrev sent : List ℕ
      sent = output_after b ws heard (room_at us i) asked found

      sent_long : length sent ≡ output_room
      sent_long = after_length b ws heard (room_at us i) second asked found (follows asked refl) (room_long more)

      sent_fits : output_room * i + length sent ≤ length us
      sent_fits = omega (arith, sent_long, wide more)

      same : SameMission ws ws'
      same =
          both_same b ws ws'
          (λ (y : Board) (z : State). received_state y z (record { 0 = slot }) (remembered_by second asked z.memory) (ending_after b ws asked found))
          (λ y z. refl) done.1.0

      -- the words, the answers and the output, as hearing it leaves them
      holds : lent ws' ≡ items_held b (lent w) rs x (i + 1)
      unfolding items_held
      holds =
          done.1.0
          ∙ turn_holds b ws rs port slot second heard (room_at us i) (room_long more) asked refl
          ∙ ap (λ (l : Lent State). held_in b l rs port slot second heard output_room) inv.held
          ∙ sym (ap (items_held b (lent w) rs x) (add-one i))

      answered : ts' ≡ items_answered b (lent w) rs x answers (i + 1)
      unfolding items_answered
      answered =
          done.1.1.0
          ∙ ap₂ (λ (l : List ℕ) (n : ℕ). set l i n) inv.told
          (turn_answers b ws rs port slot second heard (room_at us i) (room_long more) asked refl
          ∙ ap (λ (l : Lent State). answered_in b l rs port second heard output_room) inv.held)
          ∙ sym (ap (items_answered b (lent w) rs x answers) (add-one i))

      sends : us' ≡ items_sent b (lent w) rs x output (i + 1)
      unfolding items_sent
      sends =
          done.1.1.1
          ∙ ap₂ (λ (l m : List ℕ). pasted l (output_room * i) m) inv.left
          (turn_sends b ws rs port slot second heard (room_at us i) (room_long more) asked refl
          ∙ ap₂ (λ (l : Lent State) (m : List ℕ). sent_in b l rs port second heard m) inv.held (room_lent more))
          ∙ sym (ap (items_sent b (lent w) rs x output) (add-one i))

      -- the stretches behind it stay
      rests : drop (output_room * (i + 1)) us' ≡ drop (output_room * (i + 1)) output
      rests =
          let next : output_room * (i + 1) ≡ output_room * i + length sent = omega (arith, sent_long) in
          ap₂ drop next done.1.1.1
          ∙ pasted_rest us sent (output_room * i) sent_fits
          ∙ sym (drop-drop (length sent) (output_room * i) us)
          ∙ ap (drop (length sent)) inv.rest
          ∙ drop-drop (length sent) (output_room * i) output
          ∙ sym (ap (λ (n : ℕ). drop n output) next)

      pub heard_again : Inv (i + 1) at' ws' ts' us'
      heard_again =
          record {
            within = omega (arith, more);
            refuses = inv.refuses;
            hears = inv.hears;
            stands = done.0 ∙ ap (λ (n : ℕ). n + get_or x.lengths i 0) inv.stands ∙ sym (start_more x.lengths i);
            named = still_named b ws ws' p.names same inv.named;
            held = holds;
            told = answered;
            left = sends;
            many = ap length done.1.1.0 ∙ length-set ts i _ ∙ inv.many;
            long = ap length done.1.1.1 ∙ pasted_length us sent (output_room * i) sent_fits ∙ inv.long;
            rest = rests;
          }

    -- ---- the last one is heard
    pub ended : p.items ≤ i → (r : ℕ) → r ≡ p.refusal → ReceivesMany b w rs x answers output r ws ts us
    ended last r is =
        let all : i ≡ many_heard rs x answers output =
        omega (arith, last, inv.within, inv.hears ∙ ap (λ (n : ℕ). items_heard n (length x.lengths)) inv.refuses) in (
          is ∙ inv.refuses,
          (
            inv.held ∙ ap (items_held b (lent w) rs x) all,
            (inv.told ∙ ap (items_answered b (lent w) rs x answers) all, inv.left ∙ ap (items_sent b (lent w) rs x output) all),
          ),
        )
