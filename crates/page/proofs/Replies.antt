-- Answering ends as page 02 says: for any relay, port, octets and room what becomes of the reply is the table's verdict (`reply_verdict`), each number exactly
-- where its row decides; the one port that it goes by is that of a route that matches, of which none has more ones. Assumes nothing.
use Rattle.std.specs.Prelude.{Option}
use native.Mathlib.Omega.{arith}
use Prim.Native.Nat.{ℕ, ◌≤◌, ◌<◌}
use mathlib.Core.Path.{◌≡◌, refl, sym, ap, ap₂, subst, ◌∙◌}
use mathlib.Core.Logic.{◌↔◌, ◌≢◌, ◌⊎◌, inl, ⊎_elim}
use mathlib.Core.Bool.{Bool, true, false, not, ◌&&◌}
use mathlib.Core.List.{List, [], ◌∷◌}
use lib.Dec.{eqb, ltb}
use lib.ListN.{take, drop}
use borrow.Author.Tests.{eqb-true, eqb-false, eq-eqb, ne_eqb, ltb-true, ltb-false, not-true}
use Rattle.checks.specs.Order.{pick, Checks, first_of, NoneHolds}
use Rattle.checks.proofs.Bools.{true_false, not-false, and_true, refuted}
use Rattle.checks.proofs.Laws.{either, none_zero}
use Rattle.refusals.proofs.Chains.{decided}
use Rattle.sets.specs.Sets.{in_set}
use Rattle.sets.proofs.Anywhere.{any_is, any_found}
use Rattle.address.specs.declared.Address.{Address}
use Rattle.header.specs.Limits.{length_limit}
use Rattle.header.specs.declared.Addresses.{Addresses}
use Rattle.header.specs.declared.Addresses.TheVariants.{BasicPath, ExtendedPath, BasicEndSystem, ExtendedEndSystem, Ipv6}
use Rattle.networks.specs.Networks.{domain_of}
use Rattle.meaning.specs.Names.{aim_of, origin_of, is_bound}
use Rattle.meaning.specs.declared.Aim.TheVariants.{Node}
use Rattle.next_leg.specs.Leg.{addresses_next, next_fields}
use Rattle.next_leg.proofs.Names.{same_aim, same_origin}
use Rattle.routes.specs.Routes.{candidate}
use Rattle.routes.specs.Search.{longer_mask}
use Rattle.routes.specs.declared.Route.{Route}
use Rattle.routes.proofs.Longest.{Contiguous}
use Rattle.state.specs.Relay.{Relay, port_in, route_in, port_set_up}
use Rattle.lookup.specs.ForTarget.{way_for}
use Rattle.survey.proofs.Bits.{in_none}
use Rattle.verdict.specs.Numbers.{onward_number}
use Rattle.verdict.specs.declared.Target.TheVariants as target
use Rattle.verdict.specs.declared.Way.{Way}
use Rattle.replies.specs.Replied.{call_checks, answering_of, wire_fields, no_reply, replied_via, replied_to, replied_of}
use Rattle.replies.specs.declared.Answering.{Answering}
use Rattle.replies.specs.declared.sending.Replied.{Replied}
use Rattle.page.specs.Table.{Ports, GivenBy, some_port, some_matches, more_ones, best_port, best_code, Line, refused, wanted, lies_far, has_room, with_room}
use Rattle.page.specs.Ends.{Chooses}
use Rattle.page.specs.Sought.{RouteTaken}
use Rattle.page.specs.Replies.{reply_length, of_reply_size, reply_rows, reply_line, ReplyVerdict, reply_grants, reply_by, unanswered, reply_verdict_by, reply_verdict, RepliesAs, WiredAs}
use Rattle.page.proofs.Best.{no_match, some_best, one_port, route_same}
use Rattle.page.proofs.Sets.{empty_is}
use Rattle.page.proofs.Copies.{Alone, none_passes}
use Rattle.page.proofs.Rows.{only_row}
use Rattle.page.proofs.Small.{Small}
use Rattle.page.proofs.Verdict.{masks_choose, ones_choose}
use Rattle.page.proofs.Sought.{best_taken}
use Rattle.page.proofs.Answered.{call_number, made_or_not, made_tells, made_exactly}
use Rattle.page.proofs.Going.{OnePort, way_agrees, way_wired, way_small}

-- ---- some port, as a port
abbrev Some : Ports → Type 0
Some ports = (p : ℕ) × (p < 8) × (ports p ≡ true)

port_of : (ports : Ports) → some_port ports ≡ true → Some ports
unfolding some_port
port_of ports e = let at = (any_is ports 8).0 e in (at.0, at.1, at.2)

of_port : (ports : Ports) (p : ℕ) → p < 8 → ports p ≡ true → some_port ports ≡ true
unfolding some_port
of_port ports p l is = any_found ports p 8 l is

none_of : (ports : Ports) → (some_port ports ≡ false) ↔ ((p : ℕ) → p < 8 → ports p ≡ false)
none_of ports = (
  none_passes ports,
  λ none. refuted (some_port ports) (λ some. let at = port_of ports some in true_false (sym at.2 ∙ none at.0 at.1)),
)

-- ---- what a port that is granted the reply has passed, its route asking for what the code says
pub record ReplyPassed (r : Relay) (at : ℕ) (a : Answering) (room code p : ℕ) : Type 0 where
  pub set_up_lem : port_set_up r p ≡ true
  pub mtu : reply_length r at a code p ≤ (port_in r p).mtu
  pub short : reply_length r at a code p < length_limit
  pub lent : reply_length r at a code p ≤ room

fit_passed : (r : Relay) (at : ℕ) (a : Answering) (room p : ℕ) (ports : Ports) (code : ℕ) → of_reply_size r at a room ports code p ≡ true
    → ReplyPassed r at a room code p
fit_passed r at a room p ports code e =
    let n = reply_length r at a code p in
    let up = and_true (port_set_up r p) _ (and_true (ports p) _ e).1 in
    let mtu = and_true (not (ltb (port_in r p).mtu n)) _ up.1 in
    let short = and_true (ltb n length_limit) (not (ltb room n)) mtu.1 in
    record {
      set_up_lem = up.0;
      mtu = ltb-false (port_in r p).mtu n (not-true _ mtu.0);
      short = ltb-true n length_limit short.0;
      lent = ltb-false room n (not-true _ short.1);
    }

-- an address is no path, and so not bound to its domain
node_free : (port : ℕ) (y : Addresses) (d : Address) → aim_of port y ≡ Node d → is_bound y ≢ 1
unfolding aim_of
node_free port (BasicPath z) d e one = true_false cc
node_free port (ExtendedPath p) d e one = omega (arith, one)
node_free port (BasicEndSystem z s) d e one = omega (arith, one)
node_free port (ExtendedEndSystem z s) d e one = omega (arith, one)
node_free port (Ipv6 z s) d e one = omega (arith, one)

no_reply_as : (n : ℕ) → RepliesAs (no_reply n) (unanswered n)
no_reply_as n = record {
  refusal = refl;
  local = refl;
  onward = refl;
  granted = λ p l. in_none p;
  took = λ p l. in_none p;
  dropped = λ p l. in_none p;
  code = refl;
}

module _ (r : Relay) (number dropping at : ℕ) (octets : List ℕ) (room : ℕ) where
  abbrev a : Answering
  a = answering_of r number dropping at octets room

  abbrev replied : Replied
  replied = replied_of r number dropping at octets room

  abbrev onward : ℕ
  onward = onward_number replied.ruling.onward

  abbrev way : Option Way
  way = way_for r target.Route a.destination

  made_one : a.made ≢ 0 → a.made ≡ 1
  made_one some = ⊎_elim (λ z. absurd (some z)) (λ e. e) (made_or_not r number dropping at octets room)

  arrived : a.made ≢ 0 → a.arrival ≡ (port_in r at).address
  arrived some = (made_tells r number dropping at octets room (made_one some)).1.arrival

  module _ (more : Route → Route → Bool) (chooses : Chooses more r) where
    abbrev line : Line
    line = reply_line more r a.destination

    abbrev verdict : ReplyVerdict
    verdict = reply_verdict_by more r at a room

    -- ---- Answering ends as page 02 says, by any comparison that so chooses.
    pub replies_as : RepliesAs replied verdict
    unfolding replied_of replied_to reply_verdict_by reply_line
    replies_as = by (eqb a.made 0) refl
      where
        by : (t : Bool) → eqb a.made 0 ≡ t
            → RepliesAs (pick t (no_reply a.refusal) (replied_via r a way room)) (pick t (unanswered a.refusal) (reply_by r at a room line))
        by true e = no_reply_as a.refusal
        by false e = way_agrees r at a room (arrived (eqb-false a.made 0 e)) way line (route_same more r chooses a.destination)

    -- ---- the table's numbers
    abbrev best : Ports
    best = best_port more r (Node a.destination)

    abbrev code : ℕ
    code = best_code more r (Node a.destination)

    -- the route's port, where the reply fits it
    abbrev fit : Ports
    fit = of_reply_size r at a room best code

    -- the rows of a reply that is made
    abbrev pub rows : Checks
    rows = (not (some_matches r (Node a.destination)), 11) ∷ reply_rows r at a room best code

    line_case : (some : Bool) (ports : Ports) (n : ℕ)
        → (reply_by r at a room (pick (not some) (refused 11) (wanted ports n))).onward ≡ first_of ((not some, 11) ∷ reply_rows r at a room ports n)
    unfolding first_of
    line_case true ports n = refl
    line_case false ports n = refl

    onward_made : a.made ≡ 1 → onward ≡ first_of rows
    unfolding reply_verdict_by reply_line
    onward_made e =
        replies_as.onward
        ∙ ap (λ (t : Bool). (pick t (unanswered a.refusal) (reply_by r at a room line)).onward) (ne_eqb a.made 0 (λ z. omega (arith, e, z)))
        ∙ line_case (some_matches r (Node a.destination)) best code

    onward_none : a.made ≡ 0 → onward ≡ 0
    unfolding reply_verdict_by
    onward_none e = replies_as.onward ∙ ap (λ (t : Bool). (pick t (unanswered a.refusal) (reply_by r at a room line)).onward) (eq-eqb a.made 0 e)

    rows_numbers : GivenBy rows (first_of rows)
    unfolding reply_rows
    rows_numbers = decided rows refl

    never_zero : first_of rows ≢ 0
    unfolding reply_rows
    never_zero e = true_false (rows_numbers.0.0 e).1.1.1.0

    -- Of a reply that is made 11, 14, 15 and 1 are given exactly where their rows decide.
    pub reply_numbers_lem : a.made ≡ 1 → GivenBy rows onward
    reply_numbers_lem e = subst (GivenBy rows) (sym (onward_made e)) rows_numbers

    -- so of any call: a number is one's that is made
    in_any_call : {D : Type 0} (n : ℕ) → n ≢ 0 → (first_of rows ≡ n) ↔ D → (onward ≡ n) ↔ ((a.made ≡ 1) × D)
    in_any_call n some is = (
      λ e. ⊎_elim (λ z. absurd (some (sym e ∙ onward_none z))) (λ o. (o, is.0 (sym (onward_made o) ∙ e))) (made_or_not r number dropping at octets room),
      λ d. onward_made d.0 ∙ is.1 d.1,
    )

    -- Nothing is asked exactly where no reply is made.
    pub unasked_exactly : (onward ≡ 0) ↔ (a.made ≡ 0)
    unasked_exactly = (
      λ e. ⊎_elim (λ z. z) (λ o. absurd (never_zero (sym (onward_made o) ∙ e))) (made_or_not r number dropping at octets room),
      onward_none,
    )

    -- "11 if none" matches.
    pub reply_no_route : (onward ≡ 11) ↔ ((a.made ≡ 1) × ((q : ℕ) → candidate (route_in r q) a.destination ≡ false))
    unfolding reply_rows
    reply_no_route =
        in_any_call 11 (λ z. omega arith) (
          λ e. (no_match r a.destination).0 (not-true _ (row.0 e).1),
          λ none. row.1 (tt, ap not ((no_match r a.destination).1 none)),
        )
      where
        row : (first_of rows ≡ 11) ↔ (NoneHolds [] × (not (some_matches r (Node a.destination)) ≡ true))
        row = only_row [] (reply_rows r at a room best code) (not (some_matches r (Node a.destination))) 11 (λ z. omega arith) refl refl

    -- 14: a route matches, and of the eight ports there is none that it has and that the reply fits: in its MTU, in 8,191 octets and in the room. So it is
    -- with a route whose port is over 7, which no history has.
    pub reply_too_big : (onward ≡ 14) ↔ ((a.made ≡ 1) × ((some_matches r (Node a.destination) ≡ true) × ((p : ℕ) → p < 8 → fit p ≡ false)))
    unfolding reply_rows
    reply_too_big =
        in_any_call 14 (λ z. omega arith) (
          λ e. let d = row.0 e in (not-false _ d.0.0, (none_of fit).0 (not-true _ d.1)),
          λ d. row.1 ((ap not d.0, tt), ap not ((none_of fit).1 d.1)),
        )
      where
        row : (first_of rows ≡ 14) ↔ (NoneHolds (take 1 rows) × (not (some_port fit) ≡ true))
        row = only_row (take 1 rows) (drop 2 rows) (not (some_port fit)) 14 (λ z. omega arith) refl refl

    -- the wanted port is one
    fit_best : (p : ℕ) → fit p ≡ true → best p ≡ true
    fit_best p e = (and_true (best p) _ e).0

    fit_alone : Alone fit
    fit_alone p q l k hp hq = one_port more r chooses a.destination p q l k (fit_best p hp) (fit_best q hq)

    matches_when : (p : ℕ) → fit p ≡ true → some_matches r (Node a.destination) ≡ true
    matches_when p e = some_best more r chooses a.destination p (fit_best p e)

    -- 15: it fits the route's port, where 32 wait.
    pub reply_queue_full : (onward ≡ 15) ↔ ((a.made ≡ 1) × ((p : ℕ) × (p < 8) × (fit p ≡ true) × (has_room r p ≡ false)))
    unfolding reply_rows
    reply_queue_full =
        in_any_call 15 (λ z. omega arith) (
          λ e.
              let d = row.0 e in
              let at = port_of fit (not-false _ d.0.1.0) in
              let none = (none_of (with_room r fit)).0 (not-true _ d.1) at.0 at.1 in
              (at.0, at.1, at.2, sym (ap (λ (t : Bool). t && has_room r at.0) at.2) ∙ none),
          λ d. row.1 (
            (ap not (matches_when d.0 d.2), (ap not (of_port fit d.0 d.1 d.2), tt)),
            ap not ((none_of (with_room r fit)).1 (λ q k. refuted (with_room r fit q) (λ is.
                let both = and_true (fit q) (has_room r q) is in
                true_false (sym both.1 ∙ ap (has_room r) (fit_alone q d.0 k d.1 both.0 d.2) ∙ d.3)))),
          ),
        )
      where
        row : (first_of rows ≡ 15) ↔ (NoneHolds (take 2 rows) × (not (some_port (with_room r fit)) ≡ true))
        row = only_row (take 2 rows) (drop 3 rows) (not (some_port (with_room r fit))) 15 (λ z. omega arith) refl refl

    -- 1: it fits the route's port, where fewer wait.
    pub reply_sent : (onward ≡ 1) ↔ ((a.made ≡ 1) × ((p : ℕ) × (p < 8) × (fit p ≡ true) × (has_room r p ≡ true)))
    unfolding reply_rows
    reply_sent =
        in_any_call 1 (λ z. omega arith) (
          λ e.
              let d = row.0 e in
              let at = port_of (with_room r fit) (not-false _ d.0.1.1.0) in
              let both = and_true (fit at.0) (has_room r at.0) at.2 in
              (at.0, at.1, both.0, both.1),
          λ d. row.1 (
            (
              ap not (matches_when d.0 d.2),
              (ap not (of_port fit d.0 d.1 d.2), (ap not (of_port (with_room r fit) d.0 d.1 (rw (d.2, d.3))), tt)),
            ),
            refl,
          ),
        )
      where
        row : (first_of rows ≡ 1) ↔ (NoneHolds (take 3 rows) × (◌≡◌ {A = Bool} true true))
        row = only_row (take 3 rows) [] true 1 (λ z. omega arith) refl refl

    -- ---- the ports
    grants_case : (some : Bool) (p : ℕ) → (fit p ≡ true → some ≡ true) → reply_grants r at a room (pick (not some) (refused 11) (wanted best code)) p ≡ fit p
    grants_case true p is = refl
    grants_case false p is = sym (refuted (fit p) (λ h. true_false (sym (is h))))

    module _ (p : ℕ) (inside : p < 8) where
      granted_made : a.made ≡ 1 → in_set p replied.ruling.granted ≡ fit p
      unfolding reply_verdict_by reply_line
      granted_made e =
          replies_as.granted p inside
          ∙ ap (λ (t : Bool). (pick t (unanswered a.refusal) (reply_by r at a room line)).granted p) (ne_eqb a.made 0 (λ z. omega (arith, e, z)))
          ∙ grants_case (some_matches r (Node a.destination)) p (matches_when p)

      granted_none : a.made ≡ 0 → in_set p replied.ruling.granted ≡ false
      unfolding reply_verdict_by
      granted_none e =
          replies_as.granted p inside ∙ ap (λ (t : Bool). (pick t (unanswered a.refusal) (reply_by r at a room line)).granted p) (eq-eqb a.made 0 e)

      -- A port is granted the reply exactly where one is made, the route has this port, and the reply fits it.
      pub reply_granted : (in_set p replied.ruling.granted ≡ true) ↔ ((a.made ≡ 1) × (fit p ≡ true))
      reply_granted = (
        λ e. ⊎_elim (λ z. true_false (sym e ∙ granted_none z)) (λ o. (o, sym (granted_made o) ∙ e)) (made_or_not r number dropping at octets room),
        λ d. granted_made d.0 ∙ d.1,
      )

      abbrev Shared : ReplyVerdict → Type 0
      Shared v = (v.took p ≡ (v.granted p && has_room r p)) × (v.dropped p ≡ (v.granted p && not (has_room r p)))

      shared : Shared verdict
      unfolding reply_verdict_by
      shared = either Shared (eqb a.made 0) (refl, refl) (refl, refl)

      -- It takes it where fewer than 32 wait, and else drops it.
      took_is : in_set p replied.ruling.took ≡ (in_set p replied.ruling.granted && has_room r p)
      took_is = replies_as.took p inside ∙ shared.0 ∙ ap (λ (t : Bool). t && has_room r p) (sym (replies_as.granted p inside))

      dropped_is : in_set p replied.ruling.dropped ≡ (in_set p replied.ruling.granted && not (has_room r p))
      dropped_is = replies_as.dropped p inside ∙ shared.1 ∙ ap (λ (t : Bool). t && not (has_room r p)) (sym (replies_as.granted p inside))

      -- What the route asks for that took it is what its verdict says.
      pub reply_code : in_set p replied.ruling.granted ≡ true → replied.code ≡ code
      unfolding reply_verdict_by reply_line
      reply_code e =
          let d = reply_granted.0 e in
          replies_as.code
          ∙ ap (λ (t : Bool). (pick t (unanswered a.refusal) (reply_by r at a room line)).code) (ne_eqb a.made 0 (λ z. omega (arith, d.0, z)))
          ∙ ap (λ (t : Bool). (reply_by r at a room (pick (not t) (refused 11) (wanted best code))).code) (matches_when p d.1)

    -- No two ports are granted it.
    alone : (p q : ℕ) → p < 8 → q < 8 → in_set p replied.ruling.granted ≡ true → in_set q replied.ruling.granted ≡ true → p ≡ q
    alone p q l k hp hq = fit_alone p q l k ((reply_granted p l).0 hp).1 ((reply_granted q k).0 hq).1

  -- ---- of any relay: the ports, masks compared as numbers
  abbrev Granted : ℕ → Type 0
  Granted p = in_set p replied.ruling.granted ≡ true

  -- A port that is granted the reply takes it where fewer than 32 wait, and else drops it.
  pub reply_took : (p : ℕ) → p < 8 → in_set p replied.ruling.took ≡ (in_set p replied.ruling.granted && has_room r p)
  reply_took = took_is longer_mask (masks_choose r)

  pub reply_dropped : (p : ℕ) → p < 8 → in_set p replied.ruling.dropped ≡ (in_set p replied.ruling.granted && not (has_room r p))
  reply_dropped = dropped_is longer_mask (masks_choose r)

  -- It is one port: a route has one.
  pub reply_one_port : (p q : ℕ) → p < 8 → q < 8 → Granted p → Granted q → p ≡ q
  reply_one_port = alone longer_mask (masks_choose r)

  -- a port that took it or dropped it was granted it
  pub reply_shared : (p : ℕ) → p < 8 → (in_set p replied.ruling.took ≡ true) ⊎ (in_set p replied.ruling.dropped ≡ true) → Granted p
  reply_shared p l =
      ⊎_elim (λ e. (and_true (in_set p replied.ruling.granted) (has_room r p) (sym (reply_took p l) ∙ e)).0)
      (λ e. (and_true (in_set p replied.ruling.granted) (not (has_room r p)) (sym (reply_dropped p l) ∙ e)).0)

  -- So of the ports that took it and of those that dropped it, taken together, no two are different.
  pub reply_at_most_one : (p q : ℕ) → p < 8 → q < 8
      → (in_set p replied.ruling.took ≡ true) ⊎ (in_set p replied.ruling.dropped ≡ true)
      → (in_set q replied.ruling.took ≡ true) ⊎ (in_set q replied.ruling.dropped ≡ true)
      → p ≡ q
  reply_at_most_one p q l k hp hq = reply_one_port p q l k (reply_shared p l hp) (reply_shared q k hq)

  -- What it has passed: both tests of 14, and the room.
  pub reply_fits : (p : ℕ) → p < 8 → Granted p → ReplyPassed r at a room replied.code p
  reply_fits p l e =
      subst (λ (n : ℕ). ReplyPassed r at a room n p) (sym (reply_code longer_mask (masks_choose r) p l e))
      (fit_passed r at a room p (best longer_mask (masks_choose r)) (code longer_mask (masks_choose r)) ((reply_granted longer_mask (masks_choose r) p l).0 e).1)

  -- A port that took or dropped the reply is that of a matching route of which none has more ones.
  pub reply_route_taken : Contiguous r.routes → (p : ℕ) → p < 8 → (in_set p replied.ruling.took ≡ true) ⊎ (in_set p replied.ruling.dropped ≡ true)
      → RouteTaken r a.destination p
  reply_route_taken contiguous p l e =
      best_taken r a.destination p
      (fit_best more_ones (ones_choose r contiguous) p ((reply_granted more_ones (ones_choose r contiguous) p l).0 (reply_shared p l e)).1)

  -- ---- of any relay: the octets that go, and the call's number
  one_line : OnePort (reply_line longer_mask r a.destination)
  unfolding reply_line
  one_line = either OnePort (not (some_matches r (Node a.destination))) tt (one_port longer_mask r (masks_choose r) a.destination)

  -- C is told the octets that go by the port that took it, widened exactly where that lies in another domain.
  pub reply_wired : WiredAs r at a replied
  unfolding replied_of replied_to reply_line
  reply_wired = by (eqb a.made 0) refl
    where
      by : (t : Bool) → eqb a.made 0 ≡ t → WiredAs r at a (pick t (no_reply a.refusal) (replied_via r a way room))
      by true e = record { octets = λ p l is. true_false (sym is ∙ in_none p); far = λ p l is. true_false (sym is ∙ in_none p) }
      by false e =
          way_wired r at a room (arrived (eqb-false a.made 0 e)) way (reply_line longer_mask r a.destination)
          (route_same longer_mask r (masks_choose r) a.destination) one_line

  -- No set has a port over 7.
  pub reply_small : Small replied.ruling
  unfolding replied_of replied_to
  reply_small = by (eqb a.made 0) refl
    where
      by : (t : Bool) → eqb a.made 0 ≡ t → Small (pick t (no_reply a.refusal) (replied_via r a way room)).ruling
      by true e = record { granted = omega arith; took = omega arith; dropped = omega arith }
      by false e = way_small r at a room (arrived (eqb-false a.made 0 e)) way

  -- It goes exactly where a port took it.
  pub reply_goes : (onward ≡ 1) ↔ (replied.ruling.took ≢ 0)
  reply_goes = (
    λ e.
        let sent = (reply_sent longer_mask (masks_choose r)).0 e in
        let at = sent.1 in
        let granted = (reply_granted longer_mask (masks_choose r) at.0 at.1).1 (sent.0, at.2) in
        λ z. true_false (sym (reply_took at.0 at.1 ∙ rw (granted, at.3)) ∙ ap (in_set at.0) z ∙ in_none at.0),
    λ some.
        let none = empty_is replied.ruling.took (λ (p : ℕ). in_set p replied.ruling.took) reply_small.took (λ p l. refl) in
        let at = port_of (λ (p : ℕ). in_set p replied.ruling.took) (not-false _ (sym none ∙ ne_eqb replied.ruling.took 0 some)) in
        let both = and_true (in_set at.0 replied.ruling.granted) (has_room r at.0) (sym (reply_took at.0 at.1) ∙ at.2) in
        let fits = (reply_granted longer_mask (masks_choose r) at.0 at.1).0 both.0 in
        (reply_sent longer_mask (masks_choose r)).1 (fits.0, (at.0, at.1, fits.1, both.1)),
  )

  -- Its addresses name at the port that it leaves by what they name where the request came in (page 02, W-214).
  pub reply_names_the_same : (p : ℕ) → p < 8 → in_set p replied.ruling.took ≡ true
      → (aim_of (port_in r p).address.0 (wire_fields (not (eqb replied.far 0)) a.arrival.0 replied.code a.fields).addresses ≡ Node a.destination)
      × (origin_of (port_in r p).address.0 (wire_fields (not (eqb replied.far 0)) a.arrival.0 replied.code a.fields).addresses
      ≡ origin_of (port_in r at).address.0 a.fields.addresses)
  unfolding wire_fields next_fields
  reply_names_the_same p l is =
      let granted = reply_shared p l (inl is) in
      let told = (made_tells r number dropping at octets room ((reply_granted longer_mask (masks_choose r) p l).0 granted).0).1 in
      let out = (port_in r p).address.0 in
      let arrival = (port_in r at).address.0 in
      let far = lies_far r at p in
      let home : far ≡ false → domain_of (port_in r p).address ≡ domain_of (port_in r at).address =
      λ near. eqb-true (domain_of (port_in r p).address) (domain_of (port_in r at).address) (not-false _ near) in
      let bound : is_bound a.fields.addresses ≡ 1 → far ≡ false = λ one. absurd (node_free arrival a.fields.addresses a.destination told.names one) in
      let wire : addresses_next (not (eqb replied.far 0)) a.arrival.0 a.fields.addresses ≡ addresses_next far arrival a.fields.addresses =
      ap₂ (λ (t : Bool) (z : Address). addresses_next t z.0 a.fields.addresses) (reply_wired.far p l is) told.arrival in (
        ap (aim_of out) wire ∙ same_aim out arrival replied.code far a.fields home bound ∙ told.names,
        ap (origin_of out) wire ∙ same_origin out arrival replied.code far a.fields home bound,
      )

  reply_refusal : replied.refusal ≡ first_of (call_checks r at room)
  unfolding reply_verdict_by
  reply_refusal = (replies_as longer_mask (masks_choose r)).refusal ∙ by (eqb a.made 0) refl
    where
      by : (t : Bool) → eqb a.made 0 ≡ t
          → (pick t (unanswered a.refusal) (reply_by r at a room (reply_line longer_mask r a.destination))).refusal ≡ first_of (call_checks r at room)
      by true e = call_number r number dropping at octets room
      by false e = sym (none_zero (call_checks r at room) ((made_exactly r number dropping at octets room).0 (made_one (eqb-false a.made 0 e))).0)

  -- 16 and 17 end the call, each exactly where its row decides.
  pub reply_refused : GivenBy (call_checks r at room) replied.refusal
  unfolding call_checks
  reply_refused = subst (GivenBy (call_checks r at room)) (sym reply_refusal) (decided (call_checks r at room) refl)

-- For any relay whatever answering ends as page 02 says, masks compared as numbers ..
pub reply_of_any_relay : (r : Relay) (number dropping at : ℕ) (octets : List ℕ) (room : ℕ)
    → RepliesAs (replied_of r number dropping at octets room) (reply_verdict_by longer_mask r at (answering_of r number dropping at octets room) room)
reply_of_any_relay r number dropping at octets room = replies_as r number dropping at octets room longer_mask (masks_choose r)

-- .. and by their ones, in the page's own words, where they are ones and then zeros.
pub reply_is_the_page : (r : Relay) → Contiguous r.routes → (number dropping at : ℕ) (octets : List ℕ) (room : ℕ)
    → RepliesAs (replied_of r number dropping at octets room) (reply_verdict r at (answering_of r number dropping at octets room) room)
reply_is_the_page r contiguous number dropping at octets room = replies_as r number dropping at octets room more_ones (ones_choose r contiguous)
