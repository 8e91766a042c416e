-- Two headers made ready, each written in the stretches of its ports, one port after the other. Assumes nothing.
use native.Mathlib.Omega.{arith}
use native.Mathlib.Numerals.{add-one}
use Prim.Native.Nat.{ℕ, zero, suc, ◌+◌, ◌-◌, ◌/◌, ◌%◌, ◌^◌, ◌≤◌}
use mathlib.Core.Path.{◌≡◌, refl, sym, ap, subst, ◌∙◌}
use mathlib.Core.Bool.{Bool, true, false}
use mathlib.Core.List.{List, ◌++◌, append_assoc}
use lib.ListN.{length, take, drop, take-append-drop, length-take, length-drop}
use lib.Seq.{length-take-le, take-append_seam, drop-append-le, drop-drop}
use borrow.Rule.Slice.PartMut.{put_mid}
use borrow.Author.Tests.{eq-eqb, ne_eqb}
use Rattle.checks.specs.Order.{pick}
use Rattle.checks.proofs.Bools.{true_false}
use Rattle.octets.specs.Octets.{pasted, fronted}
use Rattle.sets.specs.Sets.{in_set}
use Rattle.sets.proofs.Members.{in_none}
use Rattle.header.specs.Limits.{longest_header}
use Rattle.header.specs.Form.{places_of}
use Rattle.header.specs.Read.{header_of}
use Rattle.header.specs.declared.Header.{Header}
use Rattle.header.proofs.Bounds.{header_size}
use Rattle.header.proofs.BuiltLaws.{header_length}
use Rattle.header.proofs.SentOn.{sent_length}
use Rattle.next_leg.specs.Leg.{rewrites, next_fields, data_of, next_header, Sound, header_for}
use Rattle.next_leg.specs.declared.Legs.{Legs}
use Rattle.next_leg.proofs.Made.{next_small, small_size}
use Rattle.verdict.specs.Rule.{except_by}
use Rattle.survey.proofs.Bits.{in_except}
use Rattle.relay.specs.Outgoing.{stretch_of, sent_if, sent_below, chosen_if, chosen_below, Ready}

-- ---- one stretch
-- what stands behind a header in its stretch, and behind the stretch, is what stood behind it
rest_of : (k n : ℕ) (x : List ℕ) → k ≤ length (take n x) → drop k (take n x) ++ drop n x ≡ drop k x
rest_of k n x h = sym (drop-append-le k (take n x) (drop n x) h) ∙ ap (drop k) (take-append-drop n x)

pub stretch_written : (l vs : List ℕ) (from k : ℕ) {mid : List ℕ} → length vs ≤ length (take k (drop from l)) → mid ≡ fronted vs (take k (drop from l))
    → put_mid from k l mid ≡ pasted l from vs
unfolding pasted
stretch_written l vs from k {mid} h e =
    let x = drop from l in
    ap (λ (y : List ℕ). take from l ++ (y ++ drop k x)) e
    ∙ ap (λ (y : List ℕ). take from l ++ y)
    (append_assoc vs (drop (length vs) (take k x)) (drop k x)
    ∙ ap (λ (y : List ℕ). vs ++ y) (rest_of (length vs) k x h ∙ drop-drop (length vs) from l))

-- the stretch of a port has its 50 octets
pub wide_enough : (p : ℕ) (l : List ℕ) → stretch_of p + longest_header ≤ length l
    → longest_header ≤ length (take (stretch_of p + longest_header - stretch_of p) (drop (stretch_of p) l))
wide_enough p l h =
    omega (arith, length-take-le (stretch_of p + longest_header - stretch_of p) (drop (stretch_of p) l) (omega (arith, length-drop (stretch_of p) l)))

-- a header has 50 octets at the most
kept_or_made : (t : Bool) (a b : List ℕ) (n : ℕ) → length a ≤ n → length b ≤ n → length (pick t a b) ≤ n
kept_or_made true a b n h k = h
kept_or_made false a b n h k = k

pub header_fits : (far : Bool) (arrival code : ℕ) (h : Header) (octets : List ℕ) → Sound h → h ≡ header_of octets → (places_of octets).size ≤ length octets
    → length (next_header far arrival code octets) ≤ longest_header
unfolding next_header
header_fits far arrival code h octets s is inside =
    let f = next_fields far arrival code (header_of octets).fields in
    let small = next_small far arrival code (header_of octets) (subst Sound is s) refl in
    kept_or_made (rewrites far code (header_of octets).fields) _ _ longest_header
    (omega (arith, header_length f (data_of (header_of octets)) small.1.0, small_size f small.1.0))
    (omega (arith, sent_length octets inside, header_size octets))

-- ---- one port
module _ (took far : ℕ) (near other : List ℕ) (p : ℕ) (lent : List ℕ) where
  pub not_sent_lem : (took / 2 ^ p % 2 ≡ 1 → ⊥) → lent ≡ chosen_if took far near other p lent
  unfolding chosen_if
  not_sent_lem h = simp (ne_eqb _ 1 h)

  module _ (is : took / 2 ^ p % 2 ≡ 1) (room : stretch_of p + longest_header ≤ length lent) where
    abbrev wide : ℕ
    wide = stretch_of p + longest_header - stretch_of p

    -- all octets of a header, copied to the front of its stretch
    copied : (vs : List ℕ) {mid : List ℕ} → length vs ≤ longest_header
        → mid ≡ fronted vs (take wide (drop (stretch_of p) lent))
        → put_mid (stretch_of p) wide lent mid ≡ pasted lent (stretch_of p) vs
    copied vs few e =
        stretch_written lent vs (stretch_of p) wide (omega (arith, few, wide_enough p lent room)) e

    pub far_sent : {mid : List ℕ} → far / 2 ^ p % 2 ≡ 1 → length other ≤ longest_header
        → mid ≡ fronted other (take wide (drop (stretch_of p) lent))
        → put_mid (stretch_of p) wide lent mid ≡ chosen_if took far near other p lent
    unfolding chosen_if
    far_sent so few e = simp (eq-eqb _ 1 is, eq-eqb _ 1 so) (copied other few e)

    pub near_sent : {mid : List ℕ} → (far / 2 ^ p % 2 ≡ 1 → ⊥) → length near ≤ longest_header
        → mid ≡ fronted near (take wide (drop (stretch_of p) lent))
        → put_mid (stretch_of p) wide lent mid ≡ chosen_if took far near other p lent
    unfolding chosen_if
    near_sent so few e = simp (eq-eqb _ 1 is, ne_eqb _ 1 so) (copied near few e)

-- ---- the walk
module _ (took far : ℕ) (near other lent : List ℕ) where
  pub none_sent : lent ≡ chosen_below took far near other lent 0
  unfolding chosen_below
  none_sent = refl

  pub one_further : (p : ℕ) {x y : List ℕ} → x ≡ chosen_below took far near other lent p → y ≡ chosen_if took far near other p x
      → y ≡ chosen_below took far near other lent (p + 1)
  unfolding chosen_below
  one_further p ex ey = ey ∙ ap (chosen_if took far near other p) ex ∙ sym (ap (chosen_below took far near other lent) (add-one p))

  pub all_sent : (p : ℕ) {x : List ℕ} → 8 ≤ p → p ≤ 8 → x ≡ chosen_below took far near other lent p → x ≡ chosen_below took far near other lent 8
  all_sent p h k ex = ex ∙ ap (chosen_below took far near other lent) (let z : p ≡ 8 = omega arith in z)

-- ---- the headers made ready are those of the ports
pub made_ready : {header made : List ℕ} (lent : List ℕ) (ports : ℕ) {n : ℕ} → length header ≤ longest_header → n ≡ length header → made ≡ fronted header lent
    → Ready ports header n made
made_ready {header} {made} lent ports few en e =
    (omega (arith, few, en), λ some. rw (en, e) (take-append_seam header (drop (length header) lent)))

pub none_ready : (header made : List ℕ) (ports : ℕ) → ports ≡ 0 → Ready ports header 0 made
none_ready header made ports none = (omega arith, λ some. absurd (some none))

module _ (took : ℕ) (l : Legs) (octets near other lent : List ℕ)
    (near_is : (except_by took l.far ≡ 0 → ⊥) → near ≡ next_header false l.arrival.0 l.code octets)
    (other_is : (l.far ≡ 0 → ⊥) → other ≡ next_header true l.arrival.0 l.code octets) where
  -- a port that is in a set makes it no empty one
  some_port_lem : (p set : ℕ) → in_set p set ≡ true → set ≡ 0 → ⊥
  some_port_lem p set h z = true_false (sym h ∙ ap (in_set p) z ∙ in_none p)

  by_far : (p : ℕ) → in_set p took ≡ true → (t : Bool) → in_set p l.far ≡ t
      → pick t other near ≡ next_header t l.arrival.0 l.code octets
  by_far p took_it true e = other_is (some_port_lem p l.far e)
  by_far p took_it false e =
      near_is (some_port_lem p (except_by took l.far) (in_except p took l.far ∙ rw (took_it, e) refl))

  by_took : (p : ℕ) (x : List ℕ) (t : Bool) → in_set p took ≡ t
      → pick t (pasted x (stretch_of p) (pick (in_set p l.far) other near)) x ≡ pick t (pasted x (stretch_of p) (header_for l octets p)) x
  by_took p x true e = ap (pasted x (stretch_of p)) (by_far p e (in_set p l.far) refl)
  by_took p x false e = refl

  pub ready_sent : (n : ℕ) → chosen_below took l.far near other lent n ≡ sent_below took l octets lent n
  unfolding chosen_below chosen_if sent_below sent_if
  ready_sent zero = refl
  ready_sent (suc p) =
      by_took p (chosen_below took l.far near other lent p) (in_set p took) refl
      ∙ ap (λ (x : List ℕ). pick (in_set p took) (pasted x (stretch_of p) (header_for l octets p)) x) (ready_sent p)

-- no port took
pub nothing_sent : (l : Legs) (octets lent : List ℕ) (n : ℕ) → lent ≡ sent_below 0 l octets lent n
unfolding sent_below sent_if
nothing_sent l octets lent zero = refl
nothing_sent l octets lent (suc p) = rw (in_none p) (nothing_sent l octets lent p)

pub took_none : (took : ℕ) (l : Legs) (octets lent : List ℕ) → took ≡ 0 → lent ≡ sent_below took l octets lent 8
took_none took l octets lent h = rw h (nothing_sent l octets lent 8)

-- of what was made ready at most as many octets are taken
pub few_taken : (n : ℕ) (l : List ℕ) → n ≤ longest_header → length (take n l) ≤ longest_header
few_taken n l h = simp length-take (omega (arith, h))
