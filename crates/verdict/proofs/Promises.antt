-- What the rule never does, and that one datagram's copies add up. Assumes nothing.
use Rattle.std.specs.Prelude.{Option, Some, None}
use Prim.Native.Nat.{ℕ, ◌+◌}
use mathlib.Core.Path.{◌≡◌, refl, sym, ap, ◌∙◌}
use mathlib.Core.Bool.{Bool, true, false, not, ◌&&◌, ◌||◌}
use native.Mathlib.Omega.{arith}
use lib.Dec.{eqb}
use lib.Bits.{and_le_l}
use Rattle.checks.specs.Order.{pick}
use Rattle.checks.proofs.Bools.{true_false}
use Rattle.verdict.specs.Rule.{here_by, ours_by, wanted_here, local_of, except_by, unheard_by, group_line, path_line, route_line, router_line, host_line, plain_line, flood_line, line_of, copies_of}
use Rattle.verdict.specs.declared.Target.{Target}
use Rattle.verdict.specs.declared.Target.TheVariants.{Here, Broadcast, Group, Path, Route}
use Rattle.verdict.specs.declared.Place.{Place}
use Rattle.verdict.specs.declared.Way.{Way}
use Rattle.verdict.specs.declared.Flood.{Flood}
use Rattle.verdict.specs.declared.Flood.TheVariants.{Plain, Unsent, Full, New}
use Rattle.verdict.specs.declared.Case.{Case}
use Rattle.verdict.specs.declared.Local.{Local}
use Rattle.verdict.specs.declared.Local.TheVariants.{No, Delivered, Unknown}
use Rattle.verdict.specs.declared.Obstacle.{Obstacle}
use Rattle.verdict.specs.declared.Obstacle.TheVariants.{NotForUs, NoRoute, PairsHeld}
use Rattle.verdict.specs.declared.Wish.{Wish}
use Rattle.verdict.specs.declared.Wish.TheVariants.{NotAsked, Refused, Wanted}

-- every copy granted is taken or dropped, and none is both
pub copies_add_up : (local : Local) (granted full : ℕ) → (copies_of local granted full).took + (copies_of local granted full).dropped ≡ (copies_of local granted full).granted
unfolding copies_of
copies_add_up local granted full = omega (arith, and_le_l granted full)

-- ---- "no" with "not asked" never occurs but for a flooded datagram whose pair is held

refused_asked_lem : {X : Type 0} (o : Obstacle) → Refused o ≡ NotAsked → X
refused_asked_lem o e = true_false cc

wanted_asked : {X : Type 0} (n : ℕ) → Wanted n ≡ NotAsked → X
wanted_asked n e = true_false cc

would_case : (o u v : Bool) → pick (not (o || not u)) No (pick v Unknown Delivered) ≡ No → o ≡ false
would_case false u v h = refl
would_case true u true h = true_false cc
would_case true u false h = true_false cc

-- where the local half is no, the target is not ours
no_ours : (t : Target) (p : Option Place) (c : Case) → local_of t p c ≡ No → ours_by t (here_by p) ≡ false
unfolding local_of
no_ours t p c h = would_case (ours_by t (here_by p)) (eqb c.intermediate 0) (eqb c.assigned 0) h

group_case : (t u v : Bool) (set : ℕ) → pick (not t && u) NotAsked (pick v (Refused NoRoute) (Wanted set)) ≡ NotAsked → t ≡ false
group_case true u true set h = refused_asked_lem NoRoute h
group_case true u false set h = wanted_asked set h
group_case false u v set h = refl

path_case : (t u : Bool) (set : ℕ) → pick (not t) (Wanted set) (pick (not u) NotAsked (Refused NoRoute)) ≡ NotAsked → u ≡ false
path_case true true set h = refused_asked_lem NoRoute h
path_case true false set h = refl
path_case false u set h = wanted_asked set h

unheard_asked : (local : Local) → local ≡ No → unheard_by local ≡ NotAsked → ⊥
unheard_asked No z h = refused_asked_lem NotForUs h
unheard_asked Delivered z h = true_false cc
unheard_asked Unknown z h = true_false cc

both : (t : Bool) → t ≡ false → not t ≡ false → ⊥
both t is other = true_false (sym (ap not is) ∙ other)

router_asked : (t : Target) (p : Option Place) (w : Option Way) (arrival ready : ℕ) → ours_by t (here_by p) ≡ false → router_line t p w arrival ready ≡ NotAsked → ⊥
unfolding group_line path_line route_line
router_asked Here p w arrival ready o h = true_false o
router_asked Broadcast p w arrival ready o h = true_false o
router_asked Group None w arrival ready o h = refused_asked_lem NoRoute h
router_asked Group (Some place) w arrival ready o h =
    both (eqb place.here 0) (group_case (eqb place.here 0) (eqb (except_by ready arrival) 0) (eqb (except_by place.send arrival) 0) (except_by place.send arrival) h) o
router_asked Path None w arrival ready o h = refused_asked_lem NoRoute h
router_asked Path (Some place) w arrival ready o h =
    both (eqb place.here 0) (path_case (eqb (except_by place.send arrival) 0) (eqb place.here 0) (except_by place.send arrival) h) o
router_asked Route p None arrival ready o h = refused_asked_lem NoRoute h
router_asked Route p (Some way) arrival ready o h = wanted_asked way.port h

host_asked : (t : Target) (p : Option Place) (local : Local) → ours_by t (here_by p) ≡ false → local ≡ No → host_line t local ≡ NotAsked → ⊥
host_asked Here p local o z h = true_false o
host_asked Broadcast p local o z h = true_false o
host_asked Group p local o z h = unheard_asked local z h
host_asked Path p local o z h = unheard_asked local z h
host_asked Route p local o z h = unheard_asked local z h

line_case : (t : Bool) (a b : Wish) → (a ≡ NotAsked → ⊥) → (b ≡ NotAsked → ⊥) → pick t a b ≡ NotAsked → ⊥
line_case true a b p q h = p h
line_case false a b p q h = q h

plain_asked : (t : Target) (p : Option Place) (w : Option Way) (c : Case) (ready : ℕ) → local_of t p c ≡ No → plain_line t p w c ready (local_of t p c) ≡ NotAsked → ⊥
unfolding plain_line
plain_asked t p w c ready z h =
    let o = no_ours t p c z in
    line_case (eqb c.router 0) (host_line t (local_of t p c)) (router_line t p w c.arrival ready) (host_asked t p (local_of t p c) o z)
    (router_asked t p w c.arrival ready o) h

flood_asked : (t : Bool) (others : ℕ) {X : Type 0} → pick t (Refused NoRoute) (Wanted others) ≡ NotAsked → X
flood_asked true others h = refused_asked_lem NoRoute h
flood_asked false others h = wanted_asked others h

line_asked : (f : Flood) (others : ℕ) (line : Wish) → (line ≡ NotAsked → ⊥) → flood_line f others line ≡ NotAsked → f ≡ Unsent
line_asked Plain others line never h = absurd (never h)
line_asked Unsent others line never h = refl
line_asked Full others line never h = refused_asked_lem PairsHeld h
line_asked (New place) others line never h = flood_asked (eqb others 0) others h

-- a datagram that is not for this node is always asked of the onward half (page 01), unless its pair is held (page 02, W-207)
pub no_is_asked : (t : Target) (p : Option Place) (w : Option Way) (c : Case) (ready : ℕ) → local_of t p c ≡ No → line_of t p w c ready (local_of t p c) ≡ NotAsked
    → c.flood ≡ Unsent
unfolding line_of
no_is_asked t p w c ready z h = line_asked c.flood (except_by ready c.arrival) _ (plain_asked t p w c ready z) h

-- ---- the onward half does not depend on the TP-ID

-- what a host says of what is not its own depends on whether it would be delivered, and not on the TP-ID
unheard_case : (t v : Bool) → unheard_by (pick (not t) No (pick v Unknown Delivered)) ≡ pick t NotAsked (Refused NotForUs)
unheard_case true true = refl
unheard_case true false = refl
unheard_case false v = refl

host_same : (t : Target) (a b : Local) → unheard_by a ≡ unheard_by b → host_line t a ≡ host_line t b
host_same Here a b e = refl
host_same Broadcast a b e = e
host_same Group a b e = e
host_same Path a b e = e
host_same Route a b e = e

-- two cases that differ in the TP-ID alone have the same line
pub tpid_free : (t : Target) (p : Option Place) (w : Option Way) (c d : Case) (ready : ℕ) → c.arrival ≡ d.arrival → c.router ≡ d.router → c.intermediate ≡ d.intermediate → c.flood ≡ d.flood
    → line_of t p w c ready (local_of t p c) ≡ line_of t p w d ready (local_of t p d)
unfolding line_of plain_line local_of
tpid_free t p w c d ready a r i f =
    let ours = ours_by t (here_by p) in
    let z : unheard_by (local_of t p c) ≡ unheard_by (local_of t p d) =
    unheard_case (wanted_here ours c.intermediate) (eqb c.assigned 0) ∙ (rw i (sym (unheard_case (wanted_here ours d.intermediate) (eqb d.assigned 0)))) in
    rw (a, r, f, host_same t (local_of t p c) (local_of t p d) z)
