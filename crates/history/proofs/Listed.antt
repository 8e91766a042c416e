-- Demand 1: every call's answer is one of the numbers and values that page 01 lists for it. The table is written out in specs/Answers.antt; that an
-- answer stands in it is one computed test. Assumes nothing.
use Rattle.std.specs.Prelude.{Option, Some, None}
use Prim.Native.Nat.{ℕ}
use mathlib.Core.Path.{◌≡◌, refl, sym, ap, ◌∙◌}
use mathlib.Core.Bool.{Bool, true, false, not, ◌&&◌, ◌||◌, or-true}
use mathlib.Core.List.{List, [], ◌∷◌}
use lib.Bits.{bit_and}
use lib.Dec.{eqb}
use borrow.Author.Tests.{eqb-true, eqb-false}
use Rattle.checks.specs.Order.{pick, Checks, first_of}
use Rattle.checks.proofs.Bools.{true_false, and_true}
use Rattle.checks.proofs.Laws.{either}
use Rattle.address.specs.Class.{class_of}
use Rattle.header.specs.Read.{read_checks, header_of, read_of, Read}
use Rattle.header.specs.declared.Header.{Header}
use Rattle.checks.specs.Told as told
use Rattle.state.specs.Relay.{Relay, queue_in, port_set_up}
use Rattle.queue.specs.Queue.{take_of}
use Rattle.queue.specs.declared.Entry.{Entry}
use Rattle.std.proofs.Common.{Option, Some, None}
use Rattle.verdict.specs.Rule.{target_of, local_of, except_by, alone_by, group_line, path_line, route_line, router_line, unheard_by, host_line, plain_line, flood_line, line_of, after_hops, after_domain, after_size, granted_of, copies_of, ruling_of}
use Rattle.verdict.specs.declared.Target.{Target}
use Rattle.verdict.specs.declared.Target.TheVariants as target
use Rattle.verdict.specs.declared.Place.{Place}
use Rattle.verdict.specs.declared.Way.{Way}
use Rattle.verdict.specs.Numbers.{local_number, obstacle_number, onward_number}
use Rattle.verdict.specs.declared.Flood.{Flood}
use Rattle.verdict.specs.declared.Flood.TheVariants.{Plain, Unsent, Full, New}
use Rattle.verdict.specs.declared.Case.{Case}
use Rattle.verdict.specs.declared.Local.{Local}
use Rattle.verdict.specs.declared.Local.TheVariants.{No, Delivered, Unknown}
use Rattle.verdict.specs.declared.Obstacle.{Obstacle}
use Rattle.verdict.specs.declared.Onward.{Onward}
use Rattle.verdict.specs.declared.Onward.TheVariants as onward
use Rattle.verdict.specs.declared.Obstacle.TheVariants.{NotForUs, HopsUsedUp, NoRoute, LeavesDomain, TooBig, QueuesFull, PairsHeld}
use Rattle.verdict.specs.declared.Wish.{Wish}
use Rattle.verdict.specs.declared.Wish.TheVariants.{NotAsked, Refused, Wanted}
use Rattle.verdict.specs.declared.Survey.{Survey}
use Rattle.verdict.specs.declared.Ruling.{Ruling}
use Rattle.meaning.specs.Names.{aim_of}
use Rattle.meaning.specs.declared.Aim.{Aim}
use Rattle.meaning.specs.declared.Aim.TheVariants.{Node, Path, Uncarried}
use Rattle.survey.specs.Survey.{survey_of}
use Rattle.survey.specs.declared.Sought.{Sought}
use Rattle.lookup.specs.Lookup.{path_place}
use Rattle.header.proofs.Refusals.{never_zero}
use Rattle.lookup.specs.ForTarget.{place_for, way_for}
use Rattle.judge.specs.Ruling.{case_of, flood_for, destination_asked, sought_of, leg_for, ruled_by, rule_target, rule_aim, rule_of}
use Rattle.judge.specs.declared.ruling.Arrival.{Arrival}
use Rattle.meaning.specs.Arrival.{arrival_checks}
use Rattle.taking.specs.Taking.{hands_out, take_outcome}
use Rattle.judge.specs.Ending.{no_ruling, refused_by, ruled_ending, call_checks, header_ending, octets_ending, arrival_at, ending_of}
use Rattle.judge.specs.declared.Ending.{Ending}
use Rattle.routes.specs.declared.Record.{Record}
use Rattle.state.specs.Seen.{Board}
use Rattle.refusals.specs.Lists.{port_checks, route_checks, clear_route_checks, group_checks, path_checks, flag_checks, clear_checks}
use Rattle.adjust.specs.Settled.{new_record}
use Rattle.history.specs.Seat.{Seat, relay_in, relay_with, heard_by}
use Rattle.history.specs.Calls.{
  Order,
  set_router,
  set_port,
  set_lifetime,
  set_drop,
  set_route,
  clear_route,
  Setting,
  set_group,
  set_path,
  clear_group,
  clear_path,
  takes,
  order_checks,
  checks_of,
}
use Rattle.history.specs.Outcome.{number, ended, of_ending, of_taking, own_outcome}
use Rattle.history.specs.Answers.{numbers, entries, order_numbers, setting_numbers, ending_rows, own_rows, listed, stands}
use Rattle.history.proofs.Heard.{heard_so}
use Rattle.history.proofs.Refusals.{refused_grants_nothing}

-- ---- the lists of a receive
abbrev refusals : List ℕ
refusals = 21 ∷ 16 ∷ 17 ∷ 29 ∷ 1 ∷ 2 ∷ 4 ∷ 3 ∷ 5 ∷ 8 ∷ 7 ∷ 6 ∷ 28 ∷ []

-- 0 where the datagram was judged
abbrev pub end_numbers : List ℕ
end_numbers = 0 ∷ refusals

-- ---- the first check that fails gives a number of its list
abbrev all_listed : List ℕ → Checks → Bool
all_listed xs [] = true
all_listed xs (c ∷ cs) = listed xs c.1 && all_listed xs cs

pub first_listed : (xs : List ℕ) (cs : Checks) → listed xs 0 ≡ true → all_listed xs cs ≡ true → listed xs (first_of cs) ≡ true
unfolding first_of
first_listed xs [] z h = z
first_listed xs (c ∷ cs) z h =
    let both = and_true (listed xs c.1) (all_listed xs cs) h in
    either (λ n. listed xs n ≡ true) c.0 both.0 (first_listed xs cs z both.1)

row_first : (t u : Bool) → t ≡ true → ((t && true) || u) ≡ true
row_first true u h = refl
row_first false u h = true_false (sym h)

-- ---- the number that ends a call
abbrev EndListed : Ending → Type 0
EndListed e = listed end_numbers e.refusal ≡ true

read_case : (r : Relay) (at : Arrival) (t : Bool) (n : ℕ) (h : Header) → listed end_numbers n ≡ true
    → EndListed (octets_ending r at (pick t (told.Good h) (told.Refused n)))
unfolding header_ending
read_case r at true n h k =
    let m = first_of (arrival_checks at.address h.fields) in
    either EndListed (eqb m 0) refl (first_listed end_numbers (arrival_checks at.address h.fields) refl refl)
read_case r at false n h k = k

octets_listed : (r : Relay) (at : Arrival) (s : List ℕ) → EndListed (octets_ending r at (read_of s))
unfolding read_of read_checks
octets_listed r at s =
    let n = first_of (read_checks s) in
    read_case r at (eqb n 0) n (header_of s) (first_listed end_numbers (read_checks s) refl refl)

page_end_listed : (r : Relay) (port second : ℕ) (octets : List ℕ) (room : ℕ) → EndListed (ending_of r port second octets room)
unfolding ending_of call_checks
page_end_listed r port second octets room =
    let n = first_of (call_checks r port second room) in
    either EndListed (eqb n 0) (octets_listed r (arrival_at r port) octets) (first_listed end_numbers (call_checks r port second room) refl refl)

pub end_listed : (seat : Seat) (rs : List Record) (port second : ℕ) (octets : List ℕ) (room : ℕ) → EndListed (heard_by seat rs port second octets room)
end_listed seat rs port second octets room = heard_so seat rs port second octets room EndListed refl (page_end_listed (relay_with seat rs) port second octets room)

-- ---- the local half
abbrev is_no : Local → Bool
is_no No = true
is_no Delivered = false
is_no Unknown = false

-- ---- the onward half: not for us, 9, only where the local half is no
abbrev is_ours : Obstacle → Bool
is_ours NotForUs = false
is_ours HopsUsedUp = true
is_ours NoRoute = true
is_ours LeavesDomain = true
is_ours TooBig = true
is_ours QueuesFull = true
is_ours PairsHeld = true

abbrev numbered : Bool → Wish → Bool
numbered bare NotAsked = true
numbered bare (Refused o) = bare || is_ours o
numbered bare (Wanted set) = true

module _ (bare : Bool) where
  abbrev Numbered : Wish → Type 0
  Numbered l = numbered bare l ≡ true

  -- any other obstacle
  other : (o : Obstacle) → is_ours o ≡ true → numbered bare (Refused o) ≡ true
  other o h = rw h (or-true bare)

  group_numbered : (p : Option Place) (arrival others : ℕ) → Numbered (group_line p arrival others)
  unfolding group_line
  group_numbered None arrival others = other NoRoute refl
  group_numbered (Some place) arrival others =
      either Numbered (alone_by place.here others) refl (either Numbered (eqb (except_by place.send arrival) 0) (other NoRoute refl) refl)

  path_numbered : (p : Option Place) (arrival : ℕ) → Numbered (path_line p arrival)
  unfolding path_line
  path_numbered None arrival = other NoRoute refl
  path_numbered (Some place) arrival =
      either Numbered (not (eqb (except_by place.send arrival) 0)) refl (either Numbered (not (eqb place.here 0)) refl (other NoRoute refl))

  route_numbered : (w : Option Way) → Numbered (route_line w)
  unfolding route_line
  route_numbered None = other NoRoute refl
  route_numbered (Some way) = refl

  router_numbered : (t : Target) (p : Option Place) (w : Option Way) (arrival ready : ℕ) → Numbered (router_line t p w arrival ready)
  router_numbered target.Here p w arrival ready = refl
  router_numbered target.Broadcast p w arrival ready = either Numbered (eqb (except_by ready arrival) 0) refl refl
  router_numbered target.Group p w arrival ready = group_numbered p arrival (except_by ready arrival)
  router_numbered target.Path p w arrival ready = path_numbered p arrival
  router_numbered target.Route p w arrival ready = route_numbered w

unheard_numbered : (local : Local) → numbered (is_no local) (unheard_by local) ≡ true
unheard_numbered No = refl
unheard_numbered Delivered = refl
unheard_numbered Unknown = refl

host_numbered : (t : Target) (local : Local) → numbered (is_no local) (host_line t local) ≡ true
host_numbered target.Here local = refl
host_numbered target.Broadcast local = unheard_numbered local
host_numbered target.Group local = unheard_numbered local
host_numbered target.Path local = unheard_numbered local
host_numbered target.Route local = unheard_numbered local

-- a flood's line says 30 or 11 of its own
flood_numbered : (bare : Bool) (f : Flood) (others : ℕ) (l : Wish) → numbered bare l ≡ true → numbered bare (flood_line f others l) ≡ true
flood_numbered bare Plain others l h = h
flood_numbered bare Unsent others l h = refl
flood_numbered bare Full others l h = other bare PairsHeld refl
flood_numbered bare (New place) others l h = either (Numbered bare) (eqb others 0) (other bare NoRoute refl) refl

line_numbered : (t : Target) (p : Option Place) (w : Option Way) (c : Case) (ready : ℕ) (local : Local)
    → numbered (is_no local) (line_of t p w c ready local) ≡ true
unfolding line_of plain_line
line_numbered t p w c ready local =
    flood_numbered (is_no local) c.flood (except_by ready c.arrival) _
    (either (Numbered (is_no local)) (eqb c.router 0) (host_numbered t local) (router_numbered (is_no local) t p w c.arrival ready))

-- what strikes ports out leaves so what holds of its own obstacles and of all ports wanted
module _ (P : Wish → Type 0) (hops : P (Refused HopsUsedUp)) (domain : P (Refused LeavesDomain)) (size : P (Refused TooBig)) (ports : (set : ℕ) → P (Wanted set)) where
  hops_keeps : (l : Wish) (spent : ℕ) → P l → P (after_hops l spent)
  hops_keeps NotAsked spent h = h
  hops_keeps (Refused o) spent h = h
  hops_keeps (Wanted set) spent h = either P (eqb spent 0) h hops

  domain_keeps : (l : Wish) (bound near : ℕ) → P l → P (after_domain l bound near)
  domain_keeps NotAsked bound near h = h
  domain_keeps (Refused o) bound near h = h
  domain_keeps (Wanted set) bound near h = either P (eqb bound 0) h (either P (eqb (bit_and set near) 0) domain (ports (bit_and set near)))

  size_keeps : (l : Wish) (fitting : ℕ) → P l → P (after_size l fitting)
  size_keeps NotAsked fitting h = h
  size_keeps (Refused o) fitting h = h
  size_keeps (Wanted set) fitting h = either P (eqb (bit_and set fitting) 0) size (ports (bit_and set fitting))

  pub granted_keeps : (l : Wish) (c : Case) (s : Survey) → P l → P (granted_of l c s)
  unfolding granted_of
  granted_keeps l c s h =
      let hopped = after_hops l c.spent in
      let near = after_domain hopped c.bound s.domain in
      size_keeps near s.fitting (domain_keeps hopped c.bound s.domain (hops_keeps l c.spent h))

granted_numbered : (bare : Bool) (l : Wish) (c : Case) (s : Survey) → Numbered bare l → Numbered bare (granted_of l c s)
granted_numbered bare = granted_keeps (Numbered bare) (other bare HopsUsedUp refl) (other bare LeavesDomain refl) (other bare TooBig refl) (λ set. refl)

-- ---- the rows of a datagram that was judged
abbrev Judged : Ruling → Type 0
Judged x = stands ending_rows (ended 0 (local_number x.local) (onward_number x.onward) x.took) ≡ true

-- a port took an entry, or all dropped theirs
abbrev sent : Bool → ℕ
sent none = onward_number (pick none (onward.Refused QueuesFull) onward.SentOn)

-- what holds of the seven numbers of obstacles holds of any obstacle's
pub each_obstacle : (P : ℕ → Type 0) → P 9 × (P 10 × (P 11 × (P 13 × (P 14 × (P 15 × P 30))))) → (o : Obstacle) → P (obstacle_number o)
each_obstacle P h NotForUs = h.0
each_obstacle P h HopsUsedUp = h.1.0
each_obstacle P h NoRoute = h.1.1.0
each_obstacle P h LeavesDomain = h.1.1.1.0
each_obstacle P h TooBig = h.1.1.1.1.0
each_obstacle P h QueuesFull = h.1.1.1.1.1.0
each_obstacle P h PairsHeld = h.1.1.1.1.1.1

-- not delivered: any obstacle
sent_not_delivered : (t : Bool) (took : ℕ) → eqb took 0 ≡ t → stands ending_rows (ended 0 0 (sent t) took) ≡ true
sent_not_delivered true took h = simp (h)
sent_not_delivered false took h = simp (h)

not_delivered : (l : Wish) (full : ℕ) → Judged (ruling_of No l full)
unfolding ruling_of copies_of
not_delivered NotAsked full = refl
not_delivered (Refused o) full = each_obstacle (λ (n : ℕ). stands ending_rows (ended 0 0 n 0) ≡ true) (refl, (refl, (refl, (refl, (refl, (refl, refl)))))) o
not_delivered (Wanted set) full = sent_not_delivered (eqb (except_by set full) 0) (except_by set full) refl

-- delivered or 26: any obstacle but that it is not for us
ours_listed : (o : Obstacle) → is_ours o ≡ true → listed (0 ∷ 30 ∷ 11 ∷ 10 ∷ 13 ∷ 14 ∷ 15 ∷ []) (obstacle_number o) ≡ true
ours_listed NotForUs h = true_false (sym h)
ours_listed HopsUsedUp h = refl
ours_listed NoRoute h = refl
ours_listed LeavesDomain h = refl
ours_listed TooBig h = refl
ours_listed QueuesFull h = refl
ours_listed PairsHeld h = refl

module _ (local : Local) (bare : eqb (local_number local) 0 ≡ false) (yes : listed (1 ∷ 26 ∷ []) (local_number local) ≡ true) where
  sent_delivered : (t : Bool) (took : ℕ) → eqb took 0 ≡ t → stands ending_rows (ended 0 (local_number local) (sent t) took) ≡ true
  sent_delivered true took h = simp (bare, yes, h)
  sent_delivered false took h = simp (bare, yes, h)

  delivered : (l : Wish) (full : ℕ) → numbered false l ≡ true → Judged (ruling_of local l full)
  unfolding ruling_of copies_of
  delivered NotAsked full h = simp (bare, yes)
  delivered (Refused o) full h = let k = ours_listed o h in simp (bare, yes, k)
  delivered (Wanted set) full h = sent_delivered (eqb (except_by set full) 0) (except_by set full) refl

local_case : (local : Local) (l : Wish) (full : ℕ) → numbered (is_no local) l ≡ true → Judged (ruling_of local l full)
local_case No l full k = not_delivered l full
local_case Delivered l full k = delivered Delivered refl refl l full k
local_case Unknown l full k = delivered Unknown refl refl l full k

judged : (t : Target) (p : Option Place) (w : Option Way) (c : Case) (s : Survey) → Judged (ruled_by t p w c s)
unfolding ruled_by
judged t p w c s =
    let local = local_of t p c in
    let line = line_of t p w c s.ready local in
    local_case local (granted_of line c s) s.full (granted_numbered (is_no local) line c s (line_numbered t p w c s.ready local))

-- ---- what holds of every ruling holds of every ending

-- a law of every ruling, and of none, is one of every ending
module _ (P : Ruling → Type 0)
    (every : (r : Relay) (x : Aim) (q : Sought) (t : Target) (p : Option Place) (w : Option Way) (c : Case) → P (ruled_by t p w c (survey_of r (destination_asked x) q))) where
  every_aim : (r : Relay) (q : Sought) (x : Aim) (c : Case) → P (rule_aim r x c (survey_of r (destination_asked x) q))
  unfolding rule_target
  every_aim r q (Node a) c =
      let t = target_of (class_of a.0) (survey_of r (destination_asked (Node a)) q) in
      every r (Node a) q t (place_for r t a c.arrival) (way_for r t a) c
  every_aim r q (Path x) c = every r (Path x) q target.Path (path_place r x) None c
  every_aim r q Uncarried c = every r Uncarried q target.Route None None c

  every_rule : (r : Relay) (at : Arrival) (x : Aim) (h : Header) → P (rule_of r at x h)
  unfolding rule_of
  every_rule r at x h = every_aim r (sought_of (leg_for r at x h)) x (case_of r.router at.set h.fields (flood_for r at x h))

  ended_or : (t : Bool) (n : ℕ) (e : Ending) → eqb n 0 ≡ t → (e.refusal ≡ 0 → P e.ruling) → (pick t e (refused_by n)).refusal ≡ 0 → P (pick t e (refused_by n)).ruling
  ended_or true n e z f h = f h
  ended_or false n e z f h = absurd (eqb-false n 0 z h)

  ended_read : (r : Relay) (at : Arrival) (s : List ℕ) (x : Read) → read_of s ≡ x → (octets_ending r at x).refusal ≡ 0 → P (octets_ending r at x).ruling
  unfolding header_ending
  ended_read r at s (told.Good h) e z =
      let n = first_of (arrival_checks at.address h.fields) in
      ended_or (eqb n 0) n (ruled_ending r at h) refl (λ k. every_rule r at (aim_of at.address.0 h.fields.addresses) h) z
  ended_read r at s (told.Refused n) e z = absurd (never_zero s (e ∙ ap told.Refused z))

  -- of every call that no refusal ended
  pub of_every_ending : (r : Relay) (port second : ℕ) (octets : List ℕ) (room : ℕ)
      → (ending_of r port second octets room).refusal ≡ 0 → P (ending_of r port second octets room).ruling
  unfolding ending_of
  of_every_ending r port second octets room z =
      let n = first_of (call_checks r port second room) in
      ended_or (eqb n 0) n (octets_ending r (arrival_at r port) (read_of octets)) refl
      (ended_read r (arrival_at r port) octets (read_of octets) refl) z

  -- of every call, where it is one of no ruling too
  any_case : P no_ruling → (r : Relay) (port second : ℕ) (octets : List ℕ) (room : ℕ) (t : Bool) → eqb (ending_of r port second octets room).refusal 0 ≡ t
      → P (ending_of r port second octets room).ruling
  any_case none r port second octets room true z = of_every_ending r port second octets room (eqb-true (ending_of r port second octets room).refusal 0 z)
  any_case none r port second octets room false z =
      rw (refused_grants_nothing r port second octets room (eqb-false (ending_of r port second octets room).refusal 0 z)) none

  pub of_any_ending : P no_ruling → (r : Relay) (port second : ℕ) (octets : List ℕ) (room : ℕ) → P (ending_of r port second octets room).ruling
  of_any_ending none r port second octets room = any_case none r port second octets room _ refl

judged_ending : (r : Relay) (port second : ℕ) (octets : List ℕ) (room : ℕ) → (ending_of r port second octets room).refusal ≡ 0 → Judged (ending_of r port second octets room).ruling
judged_ending = of_every_ending Judged (λ r x q t p w c. judged t p w c (survey_of r (destination_asked x) q))

-- ---- receiving
refused_row : (n : ℕ) → eqb n 0 ≡ false → listed end_numbers n ≡ true → stands ending_rows (ended n 0 0 0) ≡ true
refused_row n z h = let k : listed refusals n ≡ true = rw z at h in row_first _ _ k

ended_case : (r : Relay) (port second : ℕ) (octets : List ℕ) (room : ℕ) (t : Bool) → eqb (ending_of r port second octets room).refusal 0 ≡ t
    → stands ending_rows (of_ending (ending_of r port second octets room)).answer ≡ true
ended_case r port second octets room true z =
    let n = eqb-true (ending_of r port second octets room).refusal 0 z in
    rw n (judged_ending r port second octets room n)
ended_case r port second octets room false z =
    let e = ending_of r port second octets room in
    let none = refused_grants_nothing r port second octets room (eqb-false e.refusal 0 z) in
    ap (λ (x : Ruling). stands ending_rows (ended e.refusal (local_number x.local) (onward_number x.onward) x.took)) none
    ∙ refused_row e.refusal z (page_end_listed r port second octets room)

-- Every ending stands in the table's rows of a receive.
pub every_ending_is_listed : (seat : Seat) (rs : List Record) (port second : ℕ) (octets : List ℕ) (room : ℕ)
    → stands ending_rows (of_ending (heard_by seat rs port second octets room)).answer ≡ true
every_ending_is_listed seat rs port second octets room =
    heard_so seat rs port second octets room (λ (e : Ending). stands ending_rows (of_ending e).answer ≡ true) refl
    (ended_case (relay_with seat rs) port second octets room _ refl)

-- 12 is given nowhere: it ends no call, and is no onward half (page 02, W-204).
unended : (e : Ending) → stands ending_rows (of_ending e).answer ≡ true → e.refusal ≡ 12 → ⊥
unended e h is = true_false (sym h ∙ rw is)

onward_not_twelve : (x : Onward) → eqb (onward_number x) 12 ≡ false
onward_not_twelve onward.NotAsked = refl
onward_not_twelve onward.SentOn = refl
onward_not_twelve (onward.Refused o) = each_obstacle (λ (n : ℕ). eqb n 12 ≡ false) (refl, (refl, (refl, (refl, (refl, (refl, refl)))))) o

pub never_twelve : (seat : Seat) (rs : List Record) (port second : ℕ) (octets : List ℕ) (room : ℕ)
    → ((heard_by seat rs port second octets room).refusal ≡ 12 → ⊥) × (onward_number (heard_by seat rs port second octets room).ruling.onward ≡ 12 → ⊥)
never_twelve seat rs port second octets room =
    let e = heard_by seat rs port second octets room in (
      unended e (every_ending_is_listed seat rs port second octets room),
      eqb-false (onward_number e.ruling.onward) 12 (onward_not_twelve e.ruling.onward),
    )

-- ---- taking
taken_case : (port : ℕ) (t : Bool) (h : Option Entry) → stands (numbers (16 ∷ 18 ∷ []) ∷ entries ∷ []) (of_taking port (pick t (told.Refused 16) (hands_out h))).answer ≡ true
taken_case port true h = refl
taken_case port false (Some x) = refl
taken_case port false None = refl

-- ---- settings
pub number_row : (ns : List ℕ) (cs : Checks) → listed ns 0 ≡ true → all_listed ns cs ≡ true → stands (numbers ns ∷ []) (number (first_of cs)) ≡ true
number_row ns cs z h = rw (first_listed ns cs z h) refl

pub order_listed : (b : Board) (o : Order) → stands (numbers (order_numbers o) ∷ []) (number (first_of (order_checks b o))) ≡ true
order_listed b (set_router x) = number_row (0 ∷ 24 ∷ []) (flag_checks x) refl refl
order_listed b (set_port p address mask mtu mission) =
    number_row (0 ∷ 21 ∷ 25 ∷ 22 ∷ 24 ∷ 35 ∷ []) (port_checks b p address mask mtu mission) refl refl
order_listed b (set_lifetime x) = number_row (0 ∷ []) [] refl refl
order_listed b (set_drop x) = number_row (0 ∷ 24 ∷ []) (flag_checks x) refl refl
order_listed b (set_route rs i prefix mask port availability capabilities mission) =
    number_row (0 ∷ 21 ∷ 22 ∷ 24 ∷ 23 ∷ []) (route_checks b rs i (new_record prefix mask port availability capabilities mission)) refl refl
order_listed b (clear_route rs i) = number_row (0 ∷ 21 ∷ []) (clear_route_checks rs i) refl refl

pub setting_listed : (r : Relay) (s : Setting) → stands (numbers (setting_numbers s) ∷ []) (number (first_of (checks_of r s))) ≡ true
setting_listed r (set_group i address send subscribed) = number_row (0 ∷ 21 ∷ 25 ∷ 23 ∷ []) (group_checks r i address send subscribed) refl refl
setting_listed r (set_path i path send here) = number_row (0 ∷ 21 ∷ 25 ∷ 24 ∷ 23 ∷ []) (path_checks r i path send here) refl refl
setting_listed r (clear_group i) = number_row (0 ∷ 21 ∷ []) (clear_checks i 16) refl refl
setting_listed r (clear_path i) = number_row (0 ∷ 21 ∷ []) (clear_checks i 16) refl refl

pub taking_listed : (seat : Seat) (port : ℕ) → stands (own_rows (takes port)) (own_outcome seat (takes port)).answer ≡ true
unfolding take_outcome
taking_listed seat port = taken_case port (not (port_set_up (relay_in seat) port)) (take_of (queue_in (relay_in seat) port)).head
