-- Which datagrams are answered, and by what: a reply is made exactly to the requests that page 02, W-203, says (`RequestAnswered`), and it is made of what that
-- says (`ReplyTo`). Assumes nothing.
use Rattle.std.specs.Prelude.{Option, Some, None}
use native.Mathlib.Omega.{arith}
use Prim.Native.Nat.{ℕ, ◌+◌, ◌-◌, ◌*◌, ◌/◌, ◌%◌, ◌^◌, ◌≤◌, ◌<◌}
use mathlib.Core.Path.{◌≡◌, refl, sym, ap, ap₂, subst, ◌∙◌}
use mathlib.Core.Logic.{◌↔◌, ◌≢◌, ◌⊎◌, inl, inr, ⊎_elim}
use mathlib.Core.Bool.{Bool, true, false, not, ◌&&◌, ◌||◌, not-not}
use mathlib.Core.List.{List}
use lib.Dec.{eqb, ltb}
use borrow.Author.Tests.{eqb-true, eqb-false, eq-eqb, ne_eqb, ltb-true, ltb-false, le-ltb, not-true}
use Rattle.std.proofs.Common.{Some}
use Rattle.std.specs.Prelude.{Option, None}
use Rattle.checks.specs.Order.{pick, first_of, NoneHolds}
use Rattle.checks.proofs.Bools.{true_false, not-false, and_true}
use Rattle.checks.proofs.Laws.{either, zero_none, none_zero}
use Rattle.refusals.proofs.Chains.{are_numbers, numbered, decided}
use Rattle.address.specs.Class.{class_of, class_number}
use Rattle.address.specs.declared.Address.{Address}
use Rattle.address.specs.declared.PathAddress.{PathAddress}
use Rattle.address.specs.declared.Class.{Class}
use Rattle.address.specs.declared.Class.TheVariants as class
use Rattle.header.specs.Build.{source_flag, qos_flag, size_of}
use Rattle.header.specs.Read.{header_of, read_checks, read_of}
use Rattle.header.specs.Onward.{renewal_of, found_of}
use Rattle.header.specs.declared.Addresses.{Addresses}
use Rattle.header.specs.declared.Addresses.TheVariants.{BasicPath, ExtendedPath, BasicEndSystem, ExtendedEndSystem, Ipv6}
use Rattle.header.specs.declared.Qos.{Qos}
use Rattle.header.specs.declared.Fields.{Fields}
use Rattle.header.specs.declared.Header.{Header}
use Rattle.checks.specs.Told.{Good, Refused}
use Rattle.header.specs.declared.Renewal.{Renewal}
use Rattle.echo.specs.Message.{request_size, reply_size, reading_of, Reading}
use Rattle.echo.specs.declared.Message.{Message}
use Rattle.echo.specs.declared.Kind.{Kind}
use Rattle.echo.specs.declared.Kind.TheVariants as kind
use Rattle.meaning.specs.Names.{aim_of, origin_of, is_basic, filled_in, routing_asked, bad_aim}
use Rattle.meaning.specs.Flood.{is_flooded, source_in}
use Rattle.meaning.specs.Arrival.{arrival_checks}
use Rattle.meaning.specs.Asked.{precedence_asked}
use Rattle.meaning.specs.declared.Aim.{Aim}
use Rattle.meaning.specs.declared.Aim.TheVariants.{Node, Path, Uncarried}
use Rattle.next_leg.specs.Leg.{is_absent, data_of}
use Rattle.routes.specs.Search.{longer_mask}
use Rattle.state.specs.Relay.{Relay, port_in, among_ports, port_set_up}
use Rattle.survey.specs.Survey.{named_below, named_of, survey_below}
use Rattle.survey.specs.declared.Sought.{Sought}
use Rattle.lookup.specs.ForTarget.{place_for}
use Rattle.verdict.specs.Numbers.{local_number}
use Rattle.verdict.specs.Rule.{local_of}
use Rattle.verdict.specs.declared.Flood.{Flood}
use Rattle.verdict.specs.declared.Local.{Local}
use Rattle.verdict.specs.declared.Local.TheVariants.{No, Delivered, Unknown}
use Rattle.verdict.specs.declared.Survey.{Survey}
use Rattle.judge.specs.Ruling.{case_of, target_asked, flood_for}
use Rattle.judge.specs.Ending.{arrival_at}
use Rattle.judge.specs.Asked.{address_in, refused_asked, node_asked, path_asked, aim_asked, carried_asked, octets_asked}
use Rattle.judge.specs.declared.Asked.{Asked}
use Rattle.replies.specs.Request.{is_delivered, scmp, asks_in_header, is_many, is_owned, is_to_many, user_data, asking_by, asking_in, asking_of}
use Rattle.replies.specs.declared.request.Request.{Request}
use Rattle.replies.specs.Reply.{reply_addresses, reply_qos, reply_fields, seen_for, least, most_echoed, echoed_count, no_answer, made_of, fits_mtu, asked_by, is_asked, answer_to}
use Rattle.replies.specs.Replied.{call_checks, destination_survey, heard_answer, answering_of}
use Rattle.replies.specs.declared.Answering.{Answering}
use Rattle.page.specs.Table.{GivenBy, aim_at, equals_port, broadcast_of_ours, local_half}
use Rattle.page.specs.Replies.{goes_to_many, least_reply, RequestAnswered, ReplyTo}
use Rattle.page.proofs.Ports.{addressed_none, broadcast_none}
use Rattle.page.proofs.Local.{local_is}
use Rattle.page.proofs.Halves.{asked_ours}
use Rattle.page.proofs.Verdict.{masks_choose, flag_small}

-- ---- the pieces, over plain values
many_is : (c : Class) → is_many c ≡ ltb 1 (class_number c)
many_is class.Invalid = refl
many_is class.Unicast = refl
many_is class.Multicast = refl
many_is class.NetBroadcast = refl
many_is class.DomainBroadcast = refl
many_is class.ScpsBroadcast = refl
many_is class.LimitedBroadcast = refl

delivered_is : (l : Local) → is_delivered l ≡ eqb (local_number l) 1
delivered_is No = refl
delivered_is Delivered = refl
delivered_is Unknown = refl

to_one_case : (own many : Bool) → not (not own && many) ≡ (own || not many)
to_one_case true many = refl
to_one_case false many = refl

-- what is delivered, asked and not dropped, and what its message asks
abbrev answered : Bool → Option Request → Asked → Survey → ℕ → Answering
answered t w a s mtu = pick t (asked_by w a s mtu) (no_answer 0)

-- a request's numbers, where there is room for its reply
pub record Asking_for (t : Bool) (w : Option Request) (a : Asked) (s : Survey) (mtu : ℕ) : Type 0 where
  pub is : t ≡ true
  pub identifier : ℕ
  pub sequence : ℕ
  pub asks : w ≡ Some (record { identifier = identifier; sequence = sequence })
  pub room : fits_mtu a s mtu ≡ true

made_when : (t : Bool) (w : Option Request) (a : Asked) (s : Survey) (mtu : ℕ) → (answered t w a s mtu).made ≡ 1 → Asking_for t w a s mtu
made_when true (Some request) a s mtu e = by (fits_mtu a s mtu) refl e
  where
    by : (u : Bool) → fits_mtu a s mtu ≡ u → (pick u (made_of a s mtu request.identifier request.sequence) (no_answer 0)).made ≡ 1 → Asking_for true (Some request) a s mtu
    by true k f = record { is = refl; identifier = request.identifier; sequence = request.sequence; asks = refl; room = k }
    by false k f = absurd (omega (arith, f))
made_when true None a s mtu e = absurd (omega (arith, e))
made_when false w a s mtu e = absurd (omega (arith, e))

when_made : (t : Bool) (w : Option Request) (a : Asked) (s : Survey) (mtu : ℕ) (k : Asking_for t w a s mtu)
    → answered t w a s mtu ≡ made_of a s mtu k.identifier k.sequence
when_made t w a s mtu k =
    ap₂ (λ (u : Bool) (v : Option Request). answered u v a s mtu) k.is k.asks
    ∙ ap (λ (u : Bool). pick u (made_of a s mtu k.identifier k.sequence) (no_answer 0)) k.room

-- a reply is made or not
abbrev IsOrNot : Answering → Type 0
IsOrNot a = (a.made ≡ 0) ⊎ (a.made ≡ 1)

made_either : (t : Bool) (w : Option Request) (a : Asked) (s : Survey) (mtu : ℕ) → IsOrNot (answered t w a s mtu)
made_either true (Some request) a s mtu = either IsOrNot (fits_mtu a s mtu) (inr refl) (inl refl)
made_either true None a s mtu = inl refl
made_either false w a s mtu = inl refl

unrefused : (t : Bool) (w : Option Request) (a : Asked) (s : Survey) (mtu : ℕ) → (answered t w a s mtu).refusal ≡ 0
unrefused true (Some request) a s mtu = either (λ (x : Answering). x.refusal ≡ 0) (fits_mtu a s mtu) refl refl
unrefused true None a s mtu = refl
unrefused false w a s mtu = refl

untested : (t : Bool) (a : Answering) → t ≡ false → (pick t a (no_answer 0)).made ≡ 0
untested t a e = rw e

no_source : (control flood none hops : Bool) → none ≡ true → (control && (flood && (not none && hops))) ≡ false
no_source false flood none hops e = refl
no_source true false none hops e = refl
no_source true true none hops e = rw e

unasked_case : (refusal drop local asks many : Bool) → asks ≡ false → (refusal && (drop && (local && (asks && many)))) ≡ false
unasked_case false drop local asks many e = refl
unasked_case true false local asks many e = refl
unasked_case true true false asks many e = refl
unasked_case true true true asks many e = rw e

-- what lacks a source does not ask
unsourced : (g : Fields) → source_flag g.addresses ≡ 0 → asks_in_header g ≡ false
unfolding asks_in_header
unsourced g none =
    no_source (eqb g.tpid scmp) (not (is_flooded g)) (eqb (source_flag g.addresses) 0) (not (is_absent g.hops)) (eq-eqb (source_flag g.addresses) 0 none)

unsourced_unasked : (dropping : ℕ) (a : Asked) (s : Survey) → source_flag a.header.fields.addresses ≡ 0 → is_asked dropping a s ≡ false
unfolding is_asked
unsourced_unasked dropping a s none =
    unasked_case (eqb a.refusal 0) (eqb dropping 0) (is_delivered (local_of a.target a.place a.case)) (asks_in_header a.header.fields)
    (not (is_to_many s (record { 0 = address_in a.destination }))) (unsourced a.header.fields none)

-- ---- the message
pub record Requests (octets : List ℕ) (i q : ℕ) : Type 0 where
  pub message : Message
  pub holds : reading_of octets ≡ Good message
  pub request : message.kind ≡ kind.Request
  pub identifier : message.identifier ≡ i
  pub sequence : message.sequence ≡ q

some_same : {x y : Request} → Some x ≡ Some y → x ≡ y
some_same e = cc

asks_message : (octets : List ℕ) (i q : ℕ) → asking_in (reading_of octets) ≡ Some (record { identifier = i; sequence = q }) → Requests octets i q
asks_message octets i q e = by (reading_of octets) refl e
  where
    by_kind : (m : Message) (k : Kind) → m.kind ≡ k → reading_of octets ≡ Good m → asking_by k m.identifier m.sequence ≡ Some (record { identifier = i; sequence = q })
        → Requests octets i q
    by_kind m kind.Request is reads f =
        let same = some_same f in
        record {
          message = m;
          holds = reads;
          request = is;
          identifier = ap (λ (x : Request). x.identifier) same;
          sequence = ap (λ (x : Request). x.sequence) same;
        }
    by_kind m (kind.Reply s) is reads f = true_false cc

    by : (x : Reading) → reading_of octets ≡ x → asking_in x ≡ Some (record { identifier = i; sequence = q }) → Requests octets i q
    by (Good m) reads f = by_kind m m.kind refl reads f
    by (Refused n) reads f = true_false cc

message_asks : (octets : List ℕ) (m : Message) → reading_of octets ≡ Good m → m.kind ≡ kind.Request
    → asking_in (reading_of octets) ≡ Some (record { identifier = m.identifier; sequence = m.sequence })
message_asks octets m reads request = rw reads (ap (λ (k : Kind). asking_by k m.identifier m.sequence) request)

good_same : {m k : Message} → Good m ≡ Good k → m ≡ k
good_same e = cc

-- ---- the count
module _ (mtu size n : ℕ) (room : size + reply_size ≤ mtu) where
  pub record Counted (count : ℕ) : Type 0 where
    pub within : count ≤ n
    pub short : count ≤ most_echoed
    pub fits : size + reply_size + count ≤ mtu
    pub whole : (count ≡ n) ⊎ ((count ≡ most_echoed) ⊎ (size + reply_size + count ≡ mtu))

  counted : Counted (echoed_count mtu size n)
  unfolding echoed_count
  counted = by (ltb n most_echoed) refl
    where
      last : (k : ℕ) → k ≤ n → k ≤ most_echoed → (k ≡ n) ⊎ (k ≡ most_echoed) → (u : Bool) → ltb k (mtu - size - reply_size) ≡ u
          → Counted (pick u k (mtu - size - reply_size))
      last k a b (inl c) true e =
          let l = ltb-true k (mtu - size - reply_size) e in
          record { within = a; short = b; fits = omega (arith, l, room); whole = inl c }
      last k a b (inr c) true e =
          let l = ltb-true k (mtu - size - reply_size) e in
          record { within = a; short = b; fits = omega (arith, l, room); whole = inr (inl c) }
      last k a b c false e =
          let l = ltb-false k (mtu - size - reply_size) e in
          record { within = omega (arith, l, a); short = omega (arith, l, b); fits = omega (arith, room); whole = inr (inr (omega (arith, room))) }

      by : (t : Bool) → ltb n most_echoed ≡ t → Counted (least (pick t n most_echoed) (mtu - size - reply_size))
      by true e = let l = ltb-true n most_echoed e in last n (omega arith) (omega (arith, l)) (inl refl) (ltb n (mtu - size - reply_size)) refl
      by false e =
          let l = ltb-false n most_echoed e in last most_echoed (omega (arith, l)) (omega arith) (inr refl) (ltb most_echoed (mtu - size - reply_size)) refl

-- ---- the addresses
-- what has no source is a path
path_sourceless : (port : ℕ) (y : Addresses) (p : PathAddress) → aim_of port y ≡ Path p → source_flag y ≡ 0
unfolding aim_of
path_sourceless port (BasicPath z) p e = refl
path_sourceless port (ExtendedPath z) p e = refl
path_sourceless port (BasicEndSystem d s) p e = true_false cc
path_sourceless port (ExtendedEndSystem d s) p e = true_false cc
path_sourceless port (Ipv6 d s) p e = true_false cc

-- the reply has addresses of as many octets, and its precedence
kind_same : (arrival : Address) (own : Bool) (y : Addresses) → is_basic (reply_addresses arrival own y) ≡ is_basic y
kind_same arrival own (BasicPath z) = refl
kind_same arrival own (ExtendedPath z) = refl
kind_same arrival own (BasicEndSystem d s) = refl
kind_same arrival own (ExtendedEndSystem d s) = refl
kind_same arrival own (Ipv6 d s) = refl

qos_same : (q : Option Qos) → (precedence_asked (reply_qos q) ≡ precedence_asked q) × (qos_flag (reply_qos q) ≡ qos_flag q)
qos_same None = (refl, refl)
qos_same (Some q) = (refl, refl)

unflooded : (q : Option Qos) → routing_asked (reply_qos q) ≡ 0
unflooded None = refl
unflooded (Some q) = refl

-- what names an address, answered by a port whose own address this is or not
pub record Named (arrival : Address) (own : Bool) (y : Addresses) (d : Address) : Type 0 where
  pub destination : origin_of arrival.0 y ≡ Some (record { 0 = source_in (origin_of arrival.0 y) })
  pub names : aim_of arrival.0 (reply_addresses arrival own y) ≡ Node (record { 0 = source_in (origin_of arrival.0 y) })
  pub from_own : own ≡ true → origin_of arrival.0 (reply_addresses arrival own y) ≡ Some d
  pub from_arrival : own ≡ false → origin_of arrival.0 (reply_addresses arrival own y) ≡ Some arrival

node_same : {x d : Address} → Node x ≡ Node d → x ≡ d
node_same e = cc

-- an address is filled in from itself with its last octet
filled_back : (n : ℕ) → n / 2 ^ 8 * 256 + n % 256 ≡ n
filled_back n = omega arith

named : (arrival : Address) (own : Bool) (y : Addresses) (d : Address) → aim_of arrival.0 y ≡ Node d → Named arrival own y d
unfolding aim_of origin_of
named arrival own (BasicPath z) d e = true_false cc
named arrival own (ExtendedPath z) d e = true_false cc
named arrival own (BasicEndSystem z s) d e = record {
  destination = refl;
  names = refl;
  from_own = λ o. ap (λ (t : Bool). Some (record { 0 = filled_in arrival.0 (pick t z (arrival.0 % 256)) })) o ∙ ap Some (node_same e);
  from_arrival = λ o.
      ap (λ (t : Bool). Some (record { 0 = filled_in arrival.0 (pick t z (arrival.0 % 256)) })) o
      ∙ ap (λ (n : ℕ). Some (record { 0 = n })) (filled_back arrival.0);
}
named arrival own (ExtendedEndSystem z s) d e = record {
  destination = refl;
  names = refl;
  from_own = λ o. ap (λ (t : Bool). Some (pick t z arrival)) o ∙ ap Some (node_same e);
  from_arrival = λ o. ap (λ (t : Bool). Some (pick t z arrival)) o;
}
named arrival own (Ipv6 z s) d e = true_false cc

-- ---- the call
module _ (r : Relay) (number dropping at : ℕ) (octets : List ℕ) (room : ℕ) where
  abbrev answering : Answering
  answering = answering_of r number dropping at octets room

  abbrev h : Header
  h = header_of octets

  abbrev f : Fields
  f = h.fields

  abbrev own : Address
  own = (port_in r at).address

  abbrev mtu : ℕ
  mtu = (port_in r at).mtu

  abbrev Answers : Type 0
  Answers = RequestAnswered r dropping at octets

  -- what is made, by what was asked
  abbrev heard : Asked → Answering
  heard a = heard_answer r dropping a mtu octets

  call_numbers : are_numbers (call_checks r at room) ≡ true
  unfolding call_checks
  call_numbers = refl

  passed : (first_of (call_checks r at room) ≡ 0) ↔ NoneHolds (call_checks r at room)
  passed = (zero_none (call_checks r at room) (numbered (call_checks r at room) call_numbers), none_zero (call_checks r at room))

  -- the arrival port is one of the eight
  inside_when : NoneHolds (call_checks r at room) → at < 8
  unfolding call_checks among_ports
  inside_when none = ltb-true at 8 (and_true (ltb at 8) _ (not-false (port_set_up r at) none.0)).0

  -- ---- what a refusal leaves
  refused_none : (n : ℕ) → n ≢ 0 → (heard (refused_asked n)).made ≡ 0
  unfolding answer_to is_asked
  refused_none n some = rw (ne_eqb n 0 some)

  -- what lacks a source is not answered
  unsourced_none : (a : Asked) → source_flag a.header.fields.addresses ≡ 0 → (heard a).made ≡ 0
  unfolding answer_to
  unsourced_none a none =
      untested (is_asked dropping a (destination_survey r a)) (asked_by (asking_of a.header octets) a (destination_survey r a) mtu)
      (unsourced_unasked dropping a (destination_survey r a) none)

  -- ---- an address that is named
  module _ (inside : at < 8) (d : Address) (is : aim_at r at octets ≡ Node d) where
    abbrev asked : Asked
    asked = node_asked r number (arrival_at r at) h (renewal_of octets) d

    abbrev s : Survey
    s = named_of r.ports d

    no_sought : Sought
    no_sought = record { domain = 0; near = 0; far = 0 }

    owned_is : is_owned s ≡ equals_port r (Node d)
    unfolding named_below survey_below
    owned_is = ap not (addressed_none r (Node d) no_sought) ∙ not-not (equals_port r (Node d))

    broadcast_is_lem : not (eqb s.broadcast 0) ≡ broadcast_of_ours r (Node d)
    unfolding named_below survey_below
    broadcast_is_lem = ap not (broadcast_none r (Node d) no_sought) ∙ not-not (broadcast_of_ours r (Node d))

    to_one_is : not (is_to_many s d) ≡ (equals_port r (Node d) || not (goes_to_many r (Node d)))
    to_one_is =
        ap not (ap₂ (λ (u v : Bool). not u && v) owned_is (ap₂ ◌||◌ (many_is (class_of d.0)) broadcast_is_lem))
        ∙ to_one_case (equals_port r (Node d)) (goes_to_many r (Node d))

    abbrev flood : Flood
    flood = flood_for r (arrival_at r at) (Node d) h

    abbrev local : Local
    local = local_of (target_asked r d) (place_for r (target_asked r d) d (arrival_at r at).set) (case_of r.router (arrival_at r at).set f flood)

    local_number_lem : local_number local ≡ local_half r at (Node d) f
    local_number_lem =
        local_is r at (Node d) f (flag_small r at 0 octets 0) flood (target_asked r d) (place_for r (target_asked r d) d (arrival_at r at).set)
        (asked_ours longer_mask r (masks_choose r) at inside h (flag_small r at 0 octets 0) d)

    -- all that is asked but the message, as the code asks it
    abbrev test : Bool
    test = is_asked dropping asked s

    test_is : test ≡ (eqb dropping 0 && (is_delivered local && (asks_in_header f && not (is_to_many s d))))
    unfolding is_asked node_asked
    test_is = refl

    heard_is : heard asked ≡ answered test (asking_of h octets) asked s mtu
    unfolding answer_to node_asked
    heard_is = refl

    least_is : size_of (reply_fields own (is_owned s) f) + reply_size ≡ least_reply r at octets
    least_is = ap (λ (t : Bool). size_of (reply_fields own t f) + reply_size) (owned_is ∙ sym (ap (equals_port r) is))

    room_is : fits_mtu asked s mtu ≡ not (ltb mtu (least_reply r at octets))
    unfolding node_asked
    room_is = ap (λ (n : ℕ). not (ltb mtu n)) least_is

    abbrev Asks_it : Type 0
    Asks_it = Asking_for test (asking_of h octets) asked s mtu

    -- what is read and carried and is asked so is answered
    module _ (good : first_of (read_checks octets) ≡ 0) (carried : first_of (arrival_checks own f) ≡ 0) where
      reads : read_of octets ≡ Good h
      unfolding read_of
      reads = ap (λ (t : Bool). pick t (Good h) (Refused (first_of (read_checks octets)))) (eq-eqb (first_of (read_checks octets)) 0 good)

      asked_message : (k : Asks_it) → Requests (user_data h octets) k.identifier k.sequence
      unfolding asking_of
      asked_message k = asks_message (user_data h octets) k.identifier k.sequence k.asks

      shows : Asks_it → Answers
      unfolding asks_in_header
      shows k =
          let off = and_true (eqb dropping 0) _ (sym test_is ∙ k.is) in
          let here = and_true (is_delivered local) _ off.1 in
          let wants = and_true (asks_in_header f) (not (is_to_many s d)) here.1 in
          let control = and_true (eqb f.tpid scmp) _ wants.0 in
          let plain = and_true (not (is_flooded f)) _ control.1 in
          let ends = and_true (not (eqb (source_flag f.addresses) 0)) (not (is_absent f.hops)) plain.1 in
          let m = asked_message k in
          record {
            reads = reads;
            carried = carried;
            delivered =
                ap (λ (x : Aim). local_half r at x f) is ∙ sym local_number_lem ∙ eqb-true (local_number local) 1 (sym (delivered_is local) ∙ here.0);
            control = eqb-true f.tpid scmp control.0;
            message = m.message;
            holds = m.holds;
            request = m.request;
            not_flooded = not-true (is_flooded f) plain.0;
            source = eqb-false (source_flag f.addresses) 0 (not-true _ ends.0);
            hops = not-true (is_absent f.hops) ends.1;
            fits = ltb-false mtu (least_reply r at octets) (not-true _ (sym room_is ∙ k.room));
            to_one = ap (λ (x : Aim). equals_port r x || not (goes_to_many r x)) is ∙ sym to_one_is ∙ wants.1;
            taken = eqb-true dropping 0 off.0;
          }

      -- and its reply is made of what page 02 says
      reply_is : (k : Asks_it) → ReplyTo r at octets (asked_message k).message (heard asked)
      unfolding node_asked reply_fields seen_for
      reply_is k =
          let m = asked_message k in
          let y = f.addresses in
          let n = named own (is_owned s) y d is in
          let same = owned_is ∙ sym (ap (equals_port r) is) in
          let size = size_of (reply_fields own (is_owned s) f) in
          let enough : size + reply_size ≤ mtu = ltb-false mtu (size + reply_size) (not-true _ k.room) in
          let c = counted mtu size (data_of h - request_size) enough in
          subst (ReplyTo r at octets m.message) (sym (heard_is ∙ when_made test (asking_of h octets) asked s mtu k)) (record {
            fields = ap (λ (t : Bool). reply_fields own t f) same;
            kind_kept = kind_same own (is_owned s) y;
            precedence = refl;
            precedence_kept = (qos_same f.qos).0;
            qos_kept = (qos_same f.qos).1;
            routing = unflooded f.qos;
            hops = refl;
            control = refl;
            unstamped = refl;
            unexpanded = refl;
            unsummed = refl;
            not_between = refl;
            destination = n.destination;
            names = n.names;
            from_own = λ e aims has.
                let to = node_same (sym is ∙ aims) in
                n.from_own (owned_is ∙ ap (λ (z : Address). equals_port r (Node z)) to ∙ has) ∙ ap Some to;
            from_arrival = λ none. n.from_arrival (same ∙ none);
            arrival = refl;
            identifier = sym m.identifier;
            sequence = sym m.sequence;
            seen = refl;
            from = refl;
            within = c.within;
            short = c.short;
            fits = subst (λ (i : ℕ). i + echoed_count mtu size (data_of h - request_size) ≤ mtu) least_is c.fits;
            whole = subst (λ (i : ℕ).
                (echoed_count mtu size (data_of h - request_size) ≡ data_of h - request_size)
                ⊎ ((echoed_count mtu size (data_of h - request_size) ≡ most_echoed) ⊎ (i + echoed_count mtu size (data_of h - request_size) ≡ mtu))) least_is c.whole;
          })

    -- what is answered is asked so
    asked_for : Answers → Asks_it
    unfolding asks_in_header asking_of
    asked_for y =
        let here : is_delivered local ≡ true =
        delivered_is local ∙ eq-eqb (local_number local) 1 (local_number_lem ∙ sym (ap (λ (x : Aim). local_half r at x f) is) ∙ y.delivered) in
        let one : not (is_to_many s d) ≡ true = to_one_is ∙ sym (ap (λ (x : Aim). equals_port r x || not (goes_to_many r x)) is) ∙ y.to_one in
        record {
          is =
              test_is
              ∙ rw (eq-eqb dropping 0 y.taken, here, eq-eqb f.tpid scmp y.control, y.not_flooded, ne_eqb (source_flag f.addresses) 0 y.source, y.hops, one);
          identifier = y.message.identifier;
          sequence = y.message.sequence;
          asks = message_asks (user_data h octets) y.message y.holds y.request;
          room = room_is ∙ ap not (le-ltb mtu (least_reply r at octets) y.fits);
        }

  -- ---- by what was asked: a reply is made exactly where page 02 says so, and of what it says
  abbrev Agrees_so : Asked → Type 0
  Agrees_so a = ((heard a).made ≡ 1 → (y : Answers) × ReplyTo r at octets y.message (heard a)) × (Answers → (heard a).made ≡ 1)

  -- none is made, and none is to be
  none_so : (a : Asked) → (heard a).made ≡ 0 → (Answers → ⊥) → Agrees_so a
  none_so a none never = (λ e. absurd (omega (arith, e, none)), λ y. absurd (never y))

  module _ (inside : at < 8) where
    abbrev k : Renewal
    k = renewal_of octets

    module _ (good : first_of (read_checks octets) ≡ 0) (carried : first_of (arrival_checks own f) ≡ 0) where
      aim_so : (x : Aim) → aim_at r at octets ≡ x → Agrees_so (aim_asked r number (arrival_at r at) h k x)
      unfolding aim_asked path_asked shows
      aim_so (Node d) is = (
        λ e. (let made = sym (ap (λ (a : Answering). a.made) (heard_is inside d is)) ∙ e in
            let z = made_when (test inside d is) (asking_of h octets) (asked inside d is) (s inside d is) mtu made in
            (shows inside d is good carried z, reply_is inside d is good carried z)),
        λ y. ap (λ (a : Answering). a.made)
            (heard_is inside d is ∙ when_made (test inside d is) (asking_of h octets) (asked inside d is) (s inside d is) mtu (asked_for inside d is y)),
      )
      aim_so (Path p) is =
          let none = path_sourceless own.0 f.addresses p is in
          let a = path_asked r number (arrival_at r at) h k p in
          none_so a (unsourced_none a none) (λ y. y.source none)
      aim_so Uncarried is =
          none_so (refused_asked 6) (refused_none 6 (λ z. omega arith)) λ y.
          true_false (sym (ap bad_aim is) ∙ (zero_none (arrival_checks own f) (numbered (arrival_checks own f) refl) y.carried).1.1.0)

    -- steps 4 to 6 and 28
    carried_so : first_of (read_checks octets) ≡ 0 → Agrees_so (carried_asked r number (arrival_at r at) h k)
    unfolding carried_asked
    carried_so good = by (eqb n 0) refl
      where
        n : ℕ
        n = first_of (arrival_checks own f)

        by : (t : Bool) → eqb n 0 ≡ t → Agrees_so (pick t (aim_asked r number (arrival_at r at) h k (aim_at r at octets)) (refused_asked n))
        by true e = aim_so good (eqb-true n 0 e) (aim_at r at octets) refl
        by false e = none_so (refused_asked n) (refused_none n (eqb-false n 0 e)) (λ y. eqb-false n 0 e y.carried)

    -- steps 2 and 3
    read_so : Agrees_so (octets_asked r number (arrival_at r at) (found_of octets))
    unfolding found_of read_of
    read_so = by (eqb n 0) refl
      where
        n : ℕ
        n = first_of (read_checks octets)

        unread : (t : Bool) → t ≡ false → pick t (Good h) (Refused n) ≡ Good h → ⊥
        unread true e g = true_false e
        unread false e g = true_false cc

        by : (t : Bool) → eqb n 0 ≡ t → Agrees_so (octets_asked r number (arrival_at r at) (pick t (Good (h, k)) (Refused n)))
        by true e = carried_so (eqb-true n 0 e)
        by false e = none_so (refused_asked n) (refused_none n (eqb-false n 0 e)) (λ y. unread (eqb n 0) e y.reads)

  -- ---- the call
  heard_when : first_of (call_checks r at room) ≡ 0 → answering ≡ heard (octets_asked r number (arrival_at r at) (found_of octets))
  unfolding answering_of
  heard_when e =
      ap (λ (t : Bool). pick t (heard (octets_asked r number (arrival_at r at) (found_of octets))) (no_answer (first_of (call_checks r at room))))
      (eq-eqb (first_of (call_checks r at room)) 0 e)

  refused_when : first_of (call_checks r at room) ≢ 0 → answering ≡ no_answer (first_of (call_checks r at room))
  unfolding answering_of
  refused_when some =
      ap (λ (t : Bool). pick t (heard (octets_asked r number (arrival_at r at) (found_of octets))) (no_answer (first_of (call_checks r at room))))
      (ne_eqb (first_of (call_checks r at room)) 0 some)

  -- a call that is refused has no reply
  was_heard : answering.made ≡ 1 → NoneHolds (call_checks r at room)
  was_heard e = by (eqb n 0) refl
    where
      n : ℕ
      n = first_of (call_checks r at room)

      by : (t : Bool) → eqb n 0 ≡ t → NoneHolds (call_checks r at room)
      by true z = passed.0 (eqb-true n 0 z)
      by false z = absurd (omega (arith, e, ap (λ (a : Answering). a.made) (refused_when (eqb-false n 0 z))))

  heard_free : (a : Asked) → (heard a).refusal ≡ 0
  unfolding answer_to
  heard_free a = unrefused (is_asked dropping a (destination_survey r a)) (asking_of a.header octets) a (destination_survey r a) mtu

  heard_either : (a : Asked) → IsOrNot (heard a)
  unfolding answer_to
  heard_either a = made_either (is_asked dropping a (destination_survey r a)) (asking_of a.header octets) a (destination_survey r a) mtu

  -- 16 and 17 are the numbers of a call, each exactly where its row decides; a call that has neither is not refused.
  pub call_number : answering.refusal ≡ first_of (call_checks r at room)
  call_number = by (eqb n 0) refl
    where
      n : ℕ
      n = first_of (call_checks r at room)

      none : (heard (octets_asked r number (arrival_at r at) (found_of octets))).refusal ≡ 0
      none = heard_free (octets_asked r number (arrival_at r at) (found_of octets))

      by : (t : Bool) → eqb n 0 ≡ t → answering.refusal ≡ n
      by true z = ap (λ (a : Answering). a.refusal) (heard_when (eqb-true n 0 z)) ∙ none ∙ sym (eqb-true n 0 z)
      by false z = ap (λ (a : Answering). a.refusal) (refused_when (eqb-false n 0 z))

  pub call_exactly : GivenBy (call_checks r at room) answering.refusal
  call_exactly = subst (GivenBy (call_checks r at room)) (sym call_number) (decided (call_checks r at room) call_numbers)

  -- A reply is made or none is ..
  pub made_or_not : (answering.made ≡ 0) ⊎ (answering.made ≡ 1)
  unfolding answering_of
  made_or_not =
      either IsOrNot (eqb (first_of (call_checks r at room)) 0) (heard_either (octets_asked r number (arrival_at r at) (found_of octets))) (inl refl)

  -- .. and of one that is made, the request is as page 02 says, and so is the reply.
  pub made_tells : answering.made ≡ 1 → (y : Answers) × ReplyTo r at octets y.message answering
  made_tells e =
      let none = was_heard e in
      let is = heard_when (passed.1 none) in
      let told = (read_so (inside_when none)).0 (sym (ap (λ (a : Answering). a.made) is) ∙ e) in
      (told.0, subst (ReplyTo r at octets told.0.message) (sym is) told.1)

  answered_made : NoneHolds (call_checks r at room) → Answers → answering.made ≡ 1
  answered_made none y = ap (λ (a : Answering). a.made) (heard_when (passed.1 none)) ∙ (read_so (inside_when none)).1 y

  -- Where neither 16 nor 17 refuses the call, a reply is made exactly to these requests ..
  pub answered_exactly : NoneHolds (call_checks r at room) → (answering.made ≡ 1) ↔ Answers
  answered_exactly none = (λ e. (made_tells e).0, answered_made none)

  -- .. so of any call.
  pub made_exactly : (answering.made ≡ 1) ↔ (NoneHolds (call_checks r at room) × Answers)
  made_exactly = (λ e. (was_heard e, (made_tells e).0), λ y. answered_made y.0 y.1)

  -- No reply is made to any other.
  pub unanswered_none : (NoneHolds (call_checks r at room) → Answers → ⊥) → answering.made ≡ 0
  unanswered_none never = ⊎_elim (λ e. e) (λ e. absurd (never (was_heard e) (made_tells e).0)) made_or_not

  -- The reply to a request, whatever tells that it is answered.
  pub reply_of_lem : NoneHolds (call_checks r at room) → (y : Answers) → ReplyTo r at octets y.message answering
  reply_of_lem none y =
      let told = made_tells (answered_made none y) in
      subst (λ (m : Message). ReplyTo r at octets m answering) (good_same (sym told.0.holds ∙ y.holds)) told.1
