-- The reply to octets reads back, and no relay answers it. Assumes nothing.
use Rattle.std.specs.Prelude.{None}
use native.Mathlib.Omega.{arith}
use native.Mathlib.Nat.{pow-le-pow_right}
use Prim.Native.Nat.{ℕ, ◌+◌, ◌^◌, ◌≤◌, ◌<◌}
use mathlib.Core.Path.{◌≡◌, refl, sym, ap, subst⁻¹, ◌∙◌}
use mathlib.Core.Logic.{◌≢◌, ◌⊎◌, inl, inr}
use mathlib.Core.Bool.{Bool, not}
use mathlib.Core.List.{List}
use lib.ListN.{length, drop}
use lib.Dec.{eqb}
use Rattle.std.specs.Prelude.{Option, Some, None}
use Rattle.octets.specs.Octets.{number as number_in, octets as octets_of}
use Rattle.address.specs.declared.Address.{Address}
use Rattle.header.specs.Limits.{most_data}
use Rattle.octets.proofs.Laws.{number_lt}
use Rattle.header.specs.Form.{time_size}
use Rattle.header.specs.Read.{read_of, Read}
use Rattle.header.specs.Onward.{found_of}
use Rattle.header.specs.Build.{size_of, format_of, stamp_octets, header_octets}
use Rattle.header.specs.Range.{OctetFits, InRange}
use Rattle.header.specs.declared.Timestamp.{Timestamp}
use Rattle.header.specs.declared.Timestamp.TheVariants as stamp
use Rattle.header.specs.declared.Fields.{Fields}
use Rattle.header.specs.declared.Header.{Header}
use Rattle.checks.specs.Told.{Good, Refused}
use Rattle.header.proofs.Answers.{read_in_range}
use Rattle.header.proofs.BuiltLaws.{append_small, header_small}
use Rattle.header.proofs.Pieces.{stamp_le}
use Rattle.echo.specs.Message.{fixed_size, message_of, message_octets, reading_of, echoed_in}
use Rattle.echo.specs.declared.Kind.{Kind}
use Rattle.echo.specs.declared.Kind.TheVariants as kind
use Rattle.echo.specs.declared.Message.{Message}
use Rattle.echo.proofs.Refusals.{passed}
use Rattle.echo.proofs.Trip.{SeenFits, KindFits, Fits, read_written, written_data}
use Rattle.next_leg.specs.Leg.{data_of}
use Rattle.state.specs.Relay.{Relay, port_in}
use Rattle.survey.specs.Survey.{named_of}
use Rattle.judge.specs.Ending.{arrival_at}
use Rattle.judge.specs.Asked.{node_asked, octets_asked}
use Rattle.judge.proofs.Took.{octets_read}
use Rattle.replies.specs.Request.{is_owned, user_data, asking_in, asking_of}
use Rattle.replies.specs.Reply.{hops_in, stamp_number, seen_for}
use Rattle.replies.specs.Replied.{answering_of, destination_survey, wire_fields, message_size, wire_length, echoed_of, own_reply, wire_reply}
use Rattle.replies.specs.declared.Answering.{Answering}
use Rattle.replies.specs.declared.sending.Replied.{Replied}
use Rattle.replies.proofs.Chosen.{asking_read, nothing_asks}
use Rattle.replies.proofs.Answered.{asked_free}
use Rattle.replies.proofs.Made.{WasMade, was_made, made_one, made_holds, made_within}
use Rattle.replies.proofs.Requested.{Requested, made_requested}
use Rattle.replies.proofs.Meaning.{made_of_lem, reply_meaning}
use Rattle.replies.proofs.Written.{count_length}
use Rattle.replies.proofs.ReadBack.{Octets, octets_small, reply_range, wire_range, whole_reads, whole_data, reply_asks_nothing, message_small, take_small, drop_small}

-- ---- what a reply says of the request fits its fields
hops_fit : (o : Option ℕ) → OctetFits o → hops_in o < 2 ^ 8
hops_fit None fits = omega arith
hops_fit (Some v) fits = fits

format_fits : (t : Option Timestamp) → format_of t < 2 ^ 8
format_fits None = omega arith
format_fits (Some (stamp.Implicit t)) = omega arith
format_fits (Some (stamp.Explicit p t)) = omega arith
format_fits (Some (stamp.Binary t)) = omega arith

stamp_octets_lem : (t : Option Timestamp) → Octets (stamp_octets t)
unfolding stamp_octets
stamp_octets_lem None = λ i. omega arith
stamp_octets_lem (Some (stamp.Implicit t)) = octets_small 3 t
stamp_octets_lem (Some (stamp.Explicit p t)) = append_small (octets_of 1 p) (octets_of (time_size p) t) (octets_small 1 p) (octets_small (time_size p) t)
stamp_octets_lem (Some (stamp.Binary t)) = octets_small 4 t

stamp_fits : (t : Option Timestamp) → stamp_number t < 2 ^ 64
unfolding stamp_number
stamp_fits t =
    let s = stamp_octets t in
    let within : 256 ^ length s ≤ 256 ^ 8 = pow-le-pow_right (omega arith) (stamp_le t) in
    omega (arith, number_lt s 0 (length s) (stamp_octets_lem t), within)

pub seen_fits : (f : Fields) (mtu : ℕ) → InRange f → mtu < 2 ^ 32 → SeenFits (seen_for f mtu)
unfolding seen_for
seen_fits f mtu r small =
    record { hops = hops_fit f.hops r.hops; format = format_fits f.stamp; stamp = stamp_fits f.stamp; mtu = small; rate = omega arith }

-- ---- a reply that is made
abbrev header_in : Header → Read → Header
header_in d (Good h) = h
header_in d (Refused n) = d

module _ (r : Relay) (number dropping port : ℕ) (octets : List ℕ) (room : ℕ) where
  abbrev answer : Answering
  answer = answering_of r number dropping port octets room

  module _ (some : answer.made ≢ 0) (small : Octets octets) (here : (port_in r port).address.0 < 2 ^ 32) (wide : (port_in r port).mtu < 2 ^ 32) where
    abbrev asked : Requested r port octets
    asked = made_requested r number dropping port octets room (was_made r number dropping port octets room some)

    request_range : InRange asked.header.fields
    request_range = read_in_range octets asked.header small asked.reads

    pub fields_range : InRange answer.fields
    unfolding node_asked
    fields_range =
        subst⁻¹ (λ (x : Answering). InRange x.fields) (made_of_lem r number dropping port octets room some asked).1.1.1
        (reply_range (port_in r port).address (is_owned (named_of r.ports asked.destination)) asked.header.fields here request_range)

    arrival_fits : answer.arrival.0 < 2 ^ 32
    arrival_fits = subst⁻¹ (λ (x : ℕ). x < 2 ^ 32) (ap (λ (x : Address). x.0) (reply_meaning r number dropping port octets room some asked).arrival) here

    -- its octets, as it is made and as it goes
    count_is : fixed_size answer.message.kind + length (echoed_of answer octets) ≡ message_size answer
    count_is =
        let made = made_holds r number dropping port octets room some in
        omega (arith, made.reply, count_length answer octets (made_within r number dropping port octets room some))

    reply_kind : answer.message.kind ≡ kind.Reply (seen_for asked.header.fields (port_in r port).mtu)
    unfolding node_asked
    reply_kind = ap (λ (x : Answering). x.message.kind) (made_of_lem r number dropping port octets room some asked).1.1.1

    -- the numbers of its message are within their widths
    message_fits : Fits answer.message
    unfolding node_asked asking_of message_of
    message_fits =
        let w = was_made r number dropping port octets room some in
        let heard = octets_asked r number (arrival_at r port) (found_of octets) in
        let s = user_data heard.header octets in
        let m = asking_read s (record { identifier = w.identifier; sequence = w.sequence }) w.asks in
        let told = (passed s m.message m.reads).is in
        let part = take_small (data_of heard.header) (drop heard.header.size octets) (drop_small heard.header.size octets small) in
        let first : w.identifier ≡ number_in s 4 2 = sym m.identifier ∙ ap (λ (x : Message). x.identifier) told in
        let second : w.sequence ≡ number_in s 6 2 = sym m.sequence ∙ ap (λ (x : Message). x.sequence) told in
        record {
          identifier = omega (arith, ap (λ (x : Answering). x.message.identifier) w.is, first, number_lt s 4 2 part);
          sequence = omega (arith, ap (λ (x : Answering). x.message.sequence) w.is, second, number_lt s 6 2 part);
          kind = subst⁻¹ (λ (x : Kind). KindFits x) reply_kind (seen_fits asked.header.fields (port_in r port).mtu request_range wide);
        }

    few : message_size answer ≤ most_data
    few = omega (arith, (made_holds r number dropping port octets room some).count)

    pub own_reads : read_of (own_reply answer octets)
        ≡ Good (record { fields = answer.fields; length = size_of answer.fields + message_size answer; size = size_of answer.fields })
    own_reads = whole_reads answer.fields answer.message (echoed_of answer octets) (message_size answer) count_is few fields_range

    module _ (e : Replied) where
      abbrev far : Bool
      far = not (eqb e.far 0)

      abbrev fields : Fields
      fields = wire_fields far answer.arrival.0 e.code answer.fields

      abbrev header : Header
      header = record { fields = fields; length = wire_length far answer e.code; size = size_of fields }

      range : InRange fields
      range = wire_range far answer.arrival.0 e.code answer.fields arrival_fits fields_range

      pub wire_reads : read_of (wire_reply answer e octets) ≡ Good header
      unfolding wire_reply wire_length
      wire_reads = whole_reads fields answer.message (echoed_of answer octets) (message_size answer) count_is few range

      -- its user data are the message
      pub wire_data : user_data header (wire_reply answer e octets) ≡ message_octets answer.message (echoed_of answer octets)
      unfolding wire_reply wire_length
      wire_data = whole_data fields answer.message (echoed_of answer octets) (message_size answer) count_is few range

      -- each octet is under 256
      pub wire_small : Octets (wire_reply answer e octets)
      unfolding wire_reply
      wire_small =
          append_small (header_octets fields (message_size answer)) (message_octets answer.message (echoed_of answer octets)) (header_small fields (message_size answer))
          (message_small answer.message (echoed_of answer octets) (take_small answer.count (drop answer.from octets) (drop_small answer.from octets small)))

      -- it asks for nothing
      pub wire_asks_nothing : asking_of header (wire_reply answer e octets) ≡ None
      unfolding asking_of
      wire_asks_nothing =
          ap (λ (l : List ℕ). asking_in (reading_of l)) wire_data
          ∙ reply_asks_nothing answer.message (echoed_of answer octets) (seen_for asked.header.fields (port_in r port).mtu) reply_kind

      -- so no relay answers it, whatever its settings
      pub wire_unanswered : (other : Relay) (mission drops by lent : ℕ) → (answering_of other mission drops by (wire_reply answer e octets) lent).made ≡ 0
      wire_unanswered other mission drops by lent = by_made (made_one other mission drops by (wire_reply answer e octets) lent)
        where
          never : WasMade other mission drops by (wire_reply answer e octets) lent → ⊥
          never w =
              let heard = octets_asked other mission (arrival_at other by) (found_of (wire_reply answer e octets)) in
              let free = asked_free drops heard (destination_survey other heard) w.is_asked in
              let was = octets_read other mission (arrival_at other by) (wire_reply answer e octets) (found_of (wire_reply answer e octets)) refl free in
              let same : heard.header ≡ header = ap (header_in header) (sym was.read ∙ wire_reads) in
              nothing_asks (sym wire_asks_nothing ∙ ap (λ (h : Header). asking_of h (wire_reply answer e octets)) (sym same) ∙ w.asks)

          by_made : ((answering_of other mission drops by (wire_reply answer e octets) lent).made ≡ 0)
              ⊎ ((answering_of other mission drops by (wire_reply answer e octets) lent).made ≡ 1)
              → (answering_of other mission drops by (wire_reply answer e octets) lent).made ≡ 0
          by_made (inl z) = z
          by_made (inr o) = absurd (never (was_made other mission drops by (wire_reply answer e octets) lent (λ z. omega (arith, z, o))))

      -- and it says what it was made to say
      pub wire_message : reading_of (user_data header (wire_reply answer e octets)) ≡ Good answer.message
      wire_message = ap reading_of wire_data ∙ read_written answer.message (echoed_of answer octets) message_fits

      pub wire_echoes : echoed_in answer.message (user_data header (wire_reply answer e octets)) ≡ echoed_of answer octets
      wire_echoes = ap (echoed_in answer.message) wire_data ∙ written_data answer.message (echoed_of answer octets)
