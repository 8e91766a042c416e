-- Page 01's tempting slips and a few wrong rules more, each shown to be wrong at the definition that the code is proved against: what it would have to
-- answer is not what the definition gives. (Where one changed expression can make the slip, a must-fail edit tries that such code is refused.) Assumes nothing.
use Rattle.std.specs.Prelude.{Option, Some, None}
use native.Mathlib.Omega.{arith}
use Prim.Native.Nat.{ℕ, ◌<◌}
use mathlib.Core.Path.{◌≡◌, refl, sym, ap}
use mathlib.Core.Bool.{Bool, true, false, not}
use mathlib.Core.List.{List, [], ◌∷◌}
use lib.Dec.{eqb, ltb}
use borrow.Author.Tests.{le-ltb, lt-ltb}
use Rattle.std.proofs.Common.{None}
use Rattle.std.specs.Prelude.{Some}
use Rattle.checks.specs.Order.{pick, first_of}
use Rattle.checks.proofs.Bools.{true_false}
use Rattle.address.specs.Octets.{dotted}
use Rattle.address.specs.Class.{family_of, scps_class, net_class, class_in, class_of}
use Rattle.address.specs.Mask.{ones_below, ones_of}
use Rattle.address.specs.declared.Class.TheVariants as class
use Rattle.header.specs.Limits.{length_limit}
use Rattle.meaning.specs.Asked.{spent_of}
use Rattle.routes.specs.Refusals.{codes_refused}
use Rattle.routes.specs.Routes.{matched, candidate}
use Rattle.routes.specs.Search.{found_route, beaten, better_of, search_from, search_of}
use Rattle.routes.specs.declared.Route.{Route}
use Rattle.routes.proofs.Marked as marked
use Rattle.state.specs.Relay.{Relay, port_set_up}
use Rattle.survey.specs.Survey.{in_domain, fits_port, size_at, is_fitting, is_full}
use Rattle.survey.specs.declared.Sought.{Sought}
use Rattle.records.specs.declared.Port.{Port}
use Rattle.address.specs.declared.Address.{Address}
use Rattle.address.specs.declared.Mask.{Mask}
use Rattle.settings.specs.Refusals.{place_refused, port_class_refused}
use Rattle.verdict.specs.Rule.{after_hops, after_size, granted_of}
use Rattle.verdict.specs.declared.Case.{Case}
use Rattle.verdict.specs.declared.Flood.TheVariants.{Plain}
use Rattle.verdict.specs.declared.Obstacle.TheVariants.{LeavesDomain}
use Rattle.verdict.specs.declared.Survey.{Survey}
use Rattle.verdict.specs.declared.Wish.{Wish}
use Rattle.verdict.specs.declared.Wish.TheVariants.{Refused, Wanted}
use Rattle.judge.specs.Ending.{output_room, call_checks, ending_of}
use Rattle.judge.specs.declared.Ending.{Ending}
use Rattle.lent_state.specs.View.{too_long}
use Rattle.routes.specs.declared.Record.{Record}
use Rattle.state.specs.Seen.{Board}
use Rattle.refusals.specs.Lists.{port_checks}
use Rattle.tally.specs.Tally.{counter_for, receipt_counter}
use Rattle.history.specs.Seat.{Seat, heard_by}
use Rattle.history.proofs.Heard.{heard_is}

-- the multicast flag read as the top bit: z = 15 has it low, z = 130 has it high
pub flag_is_low : (class_of (dotted 10 4 9 15) ≡ class.Multicast) × (class_of (dotted 10 4 9 130) ≡ class.Unicast)
unfolding class_of class_in family_of scps_class net_class
flag_is_low = (refl, refl)

-- the first match kept: in case b the default route of place 0 matches, and place 2 is taken
pub not_the_first_match : search_of (record { 0 = dotted 10 4 9 16 }) marked.all ≡ found_route 2 24 marked.C
unfolding search_of search_from better_of beaten candidate matched ones_of ones_below
not_the_first_match = refl

-- a route that is not up hiding a shorter one that is: case a with D not up takes C, and nothing where no other is there
abbrev not_up : Route
not_up =
    record {
      filled = 1;
      prefix = (marked.D).prefix;
      mask = (marked.D).mask;
      port = 3;
      availability = 2;
      capabilities = 0;
    }

pub passed_over_if_not_up :
    (search_of (record { 0 = dotted 10 4 9 14 }) (marked.A ∷ marked.B ∷ marked.C ∷ not_up ∷ []) ≡ found_route 2 24 marked.C)
    × (search_of (record { 0 = dotted 10 4 9 14 }) (not_up ∷ []) ≡ None)
unfolding search_of search_from better_of beaten candidate matched ones_of ones_below
passed_over_if_not_up = (refl, refl)

-- capability 3 taken for both: both is 4
pub three_is_refused : (codes_refused 1 3 ≡ true) × (codes_refused 1 4 ≡ false)
unfolding codes_refused
three_is_refused = (refl, refl)

-- the hop test off by one: 2 goes on, 1 does not
pub hops_of_two : (spent_of (Some 2) ≡ 0) × (spent_of (Some 1) ≡ 1)
hops_of_two = (refl, refl)

-- a number counted by the wrong counter: 9 is npInAddrErrors, 13 left domain, and 15 has none
pub numbers_counted : (counter_for 9 ≡ Some 6) × ((counter_for 13 ≡ Some 13) × (counter_for 15 ≡ None))
unfolding counter_for
numbers_counted = (refl, (refl, refl))

-- an MTU that is equal refused: it holds the datagram, as it is after the rewrite
pub mtu_equal_holds : (p : Port) (q : Sought) → p.mtu ≡ size_at (in_domain p q) q → p.mtu < length_limit → is_fitting p q ≡ true
mtu_equal_holds p q h short = rw (← h) (simp (le-ltb p.mtu p.mtu (omega arith), lt-ltb p.mtu length_limit short))

-- one size tested for all ports: in another domain the copy may be too big where the one of the arrival port's domain is not
abbrev pub fitting_as_near : Port → Sought → Bool
fitting_as_near p q = fits_port p.mtu q.near

abbrev small_port : Port
small_port = record { ready = 1; address = record { 0 = 0 }; mask = record { 0 = 0 }; mtu = 10 }

pub each_port_its_own_size : ((p : Port) (q : Sought) → is_fitting p q ≡ fitting_as_near p q) → ⊥
each_port_its_own_size same = true_false (sym (same small_port (record { domain = 1; near = 10; far = 16 })))

-- a queue full with 31 waiting: it takes one more
abbrev pub full_from31 : ℕ → Bool
full_from31 waiting = not (ltb waiting 31)

pub room_at_31 : ((waiting : ℕ) → is_full waiting ≡ full_from31 waiting) → ⊥
room_at_31 same = true_false (sym (same 31))

-- the domain test struck out: where a path has one octet and the port wanted is in another domain, no copy is granted
abbrev pub granted_anywhere : Wish → Case → Survey → Wish
granted_anywhere w c s = after_size (after_hops w c.spent) s.fitting

abbrev one_octet_path : Case
one_octet_path = record { arrival = 1; router = 1; intermediate = 0; assigned = 1; bound = 1; spent = 0; flood = Plain }

abbrev port0_in_domain : Survey
port0_in_domain = record { ready = 3; addressed = 0; broadcast = 0; domain = 1; fitting = 3; full = 0 }

pub domain_is_tested : ((w : Wish) (c : Case) (s : Survey) → granted_of w c s ≡ granted_anywhere w c s) → ⊥
unfolding granted_of
domain_is_tested same = true_false (let e : Refused LeavesDomain ≡ Wanted 2 = same (Wanted 2) one_octet_path port0_in_domain in cc)

-- 17 counted as a receipt: it counts nothing
abbrev pub receipt_unless16 : ℕ → Option ℕ
receipt_unless16 refusal = pick (eqb refusal 16) None (Some 0)

pub no_receipt_at_17 : ((refusal : ℕ) → receipt_counter refusal ≡ receipt_unless16 refusal) → ⊥
no_receipt_at_17 same = true_false (let e : None ≡ Some 0 = same 17 in cc)

-- 17 before 16: a port that is not set up is 16, whatever the room
pub sixteen_comes_first : (r : Relay) (port second : ℕ) (octets : List ℕ) (room : ℕ)
    → port_set_up r port ≡ false → (ending_of r port second octets room).refusal ≡ 16
unfolding ending_of call_checks first_of
sixteen_comes_first r port second octets room h = simp (h)

-- 29 before 17: where the room is short it is 17, whatever the second (W-207: "after 16 and 17")
pub room_comes_before_second : (r : Relay) (port second : ℕ) (octets : List ℕ) (room : ℕ)
    → port_set_up r port ≡ true → ltb room output_room ≡ true → (ending_of r port second octets room).refusal ≡ 17
unfolding ending_of call_checks first_of
room_comes_before_second r port second octets room h short = simp (h, short)

-- 16 before 21: a list that is too long is 21, whatever the port
pub list_comes_first : (seat : Seat) (rs : List Record) (port second : ℕ) (octets : List ℕ) (room : ℕ)
    → too_long rs ≡ true → (heard_by seat rs port second octets room).refusal ≡ 21
list_comes_first seat rs port second octets room h = ap (λ (e : Ending). e.refusal) (heard_is seat rs port second octets room true h)

-- 25 after 22: an address of another class is 25, whatever the mask
pub class_comes_before_mask : (b : Board) (p : ℕ) (a : Address) (m : Mask) (mtu mission : ℕ)
    → place_refused p 8 ≡ false → port_class_refused a ≡ true → first_of (port_checks b p a m mtu mission) ≡ 25
unfolding first_of
class_comes_before_mask b p a m mtu mission h k = simp (h, k)
