-- The reply to octets that came in by a port, stage by stage, over plain variables. Assumes nothing.
use Rattle.std.specs.Prelude.{Option}
use native.Mathlib.Omega.{arith}
use Prim.Native.Nat.{ℕ, ◌≤◌, ◌<◌}
use mathlib.Core.Path.{◌≡◌, refl, sym, ap, subst⁻¹, ◌∙◌}
use mathlib.Core.Bool.{Bool, true, false, not}
use mathlib.Core.List.{List}
use lib.ListN.{length, get_or}
use lib.Dec.{eqb}
use borrow.Author.Tests.{eq-eqb, ne_eqb, lt-ltb, le-ltb, eqb-true}
use Rattle.checks.specs.Order.{pick, check_of}
use Rattle.checks.specs.declared.Check.{Check}
use Rattle.checks.specs.declared.Check.TheVariants.{Passed, Failed}
use Rattle.checks.proofs.Bools.{and_true}
use Rattle.checks.proofs.Steps.{holds_here, holds_not, fails_here, passes, none_left}
use Rattle.sets.specs.Sets.{only_port}
use Rattle.header.specs.Read.{header_of}
use Rattle.header.specs.Onward.{found_of}
use Rattle.header.specs.declared.Header.{Header}
use Rattle.header.proofs.Passed.{passed}
use Rattle.records.specs.Fresh.{fresh_port}
use Rattle.records.specs.declared.Port.{Port}
use Rattle.state.specs.Relay.{Relay, among_ports}
use Rattle.state.specs.Seen.{Board, State, ports_seen, seated}
use Rattle.survey.specs.Survey.{named_of}
use Rattle.verdict.specs.declared.Survey.{Survey}
use Rattle.judge.specs.Asked.{octets_asked, address_in}
use Rattle.judge.specs.declared.ruling.Arrival.{Arrival}
use Rattle.judge.specs.declared.Asked.{Asked}
use Rattle.judge.proofs.Took.{octets_read}
use Rattle.replies.specs.Request.{asking_of}
use Rattle.replies.specs.Reply.{no_answer, asked_by, is_asked, answer_to, Within}
use Rattle.replies.specs.Replied.{call_checks, heard_answer, answering_of}
use Rattle.replies.specs.declared.Answering.{Answering}
use Rattle.replies.specs.declared.request.Request.{Request}
use Rattle.replies.proofs.Chosen.{denied, granted}

-- ---- a header that was judged
pub asked_free : (dropping : ℕ) (a : Asked) (s : Survey) → is_asked dropping a s ≡ true → a.refusal ≡ 0
unfolding is_asked
asked_free dropping a s h = eqb-true a.refusal 0 (and_true (eqb a.refusal 0) _ h).0

module _ (dropping : ℕ) (a : Asked) (s : Survey) (mtu : ℕ) (octets : List ℕ) {t : Bool} (et : t ≡ is_asked dropping a s) {e : Answering} where
  pub not_asked_lem : not t ≡ true → e ≡ no_answer 0 → e ≡ answer_to dropping a s mtu octets
  unfolding answer_to
  not_asked_lem h is = simp (denied (is_asked dropping a s) et h) is

  pub is_asked_lem : not t ≡ false → {x : Option Request} (v : Option Request) → x ≡ asking_of a.header octets → x ≡ v → e ≡ asked_by v a s mtu
      → e ≡ answer_to dropping a s mtu octets
  unfolding answer_to
  is_asked_lem h v ex ev is = simp (granted (is_asked dropping a s) et h) (is ∙ ap (λ (y : Option Request). asked_by y a s mtu) (sym ev ∙ ex))

-- ---- octets that were read
pub within_read : (r : Relay) (number : ℕ) (at : Arrival) (octets : List ℕ) {a : Asked} → a ≡ octets_asked r number at (found_of octets) → Within a octets
unfolding header_of
within_read r number at octets {a} e zero =
    let asked = octets_asked r number at (found_of octets) in
    let w = octets_read r number at octets (found_of octets) refl (sym (ap (λ (x : Asked). x.refusal) e) ∙ zero) in
    let p = passed octets asked.header w.read in
    subst⁻¹ (λ (h : Header). (h.size ≤ h.length) × (h.length ≤ length octets)) (ap (λ (x : Asked). x.header) e ∙ w.is) (p.fits, p.inside)

pub octets_told : (b : Board) (s : State) (at : Arrival) (mtu : ℕ) (octets : List ℕ) {a : Asked} {n k dropping : ℕ} {v : Survey} {e : Answering}
    → a ≡ octets_asked (seated b s) s.number at (found_of octets) → n ≡ s.number → k ≡ address_in a.destination
    → v ≡ named_of (ports_seen n b) (record { 0 = k }) → dropping ≡ b.drop → e ≡ answer_to dropping a v mtu octets
    → e ≡ heard_answer (seated b s) b.drop (octets_asked (seated b s) s.number at (found_of octets)) mtu octets
octets_told b s at mtu octets {a} {n} {k} {dropping} {v} ea en ek ev ed is =
    is
    ∙ ap (λ (d : ℕ). answer_to d a v mtu octets) ed
    ∙ ap (λ (y : Survey). answer_to b.drop a y mtu octets)
    (ev ∙ ap (λ (m : ℕ). named_of (ports_seen m b) (record { 0 = k })) en ∙ ap (λ (m : ℕ). named_of (ports_seen s.number b) (record { 0 = m })) ek)
    ∙ ap (λ (x : Asked). heard_answer (seated b s) b.drop x mtu octets) ea

-- ---- the call
by_number : {n : ℕ} {e : Answering} (m : ℕ) (rest : Answering) → n ≡ m → (n ≡ 0 → ⊥) → e ≡ no_answer n → e ≡ pick (eqb m 0) rest (no_answer m)
by_number m rest same h is = rw (← same) (simp (ne_eqb _ 0 h) is)

by_rest : {n : ℕ} {e : Answering} (m : ℕ) (rest : Answering) → n ≡ m → n ≡ 0 → e ≡ rest → e ≡ pick (eqb m 0) rest (no_answer m)
by_rest m rest same h is = rw (← same) (simp (eq-eqb _ 0 h) is)

module _ (r : Relay) (number dropping port : ℕ) (octets : List ℕ) (room : ℕ) {e : Answering} {c : Check} (told : c ≡ check_of (not (among_ports r.ports port))) where
  pub no_port_lem : c ≡ Failed → e ≡ no_answer 16 → e ≡ answering_of r number dropping port octets room
  unfolding answering_of call_checks
  no_port_lem fails is = by_number _ _ (fails_here _ _ _ told fails) (λ z. omega arith) is

  module _ (ready : c ≡ Passed) {p : Port} (same : p ≡ get_or r.ports port fresh_port) where
    pub little_room : room < p.mtu → e ≡ no_answer 17 → e ≡ answering_of r number dropping port octets room
    unfolding answering_of call_checks
    little_room short is =
        let mtu = (get_or r.ports port fresh_port).mtu in
        by_number _ _ (passes _ _ _ told ready (holds_here _ _ _ (lt-ltb room mtu (rw (← same) short)))) (λ z. omega arith) is

    pub answered : {set : ℕ} → p.mtu ≤ room → set ≡ only_port port
        → e ≡ heard_answer r dropping (octets_asked r number (record { set = set; address = p.address }) (found_of octets)) p.mtu octets
        → e ≡ answering_of r number dropping port octets room
    unfolding answering_of call_checks
    answered enough only is =
        let mtu = (get_or r.ports port fresh_port).mtu in
        by_rest _ _ (passes _ _ _ told ready (holds_not _ _ _ (le-ltb room mtu (rw (← same) enough)) none_left)) refl
        (is
        ∙ ap (λ (n : ℕ). heard_answer r dropping (octets_asked r number (record { set = n; address = p.address }) (found_of octets)) p.mtu octets) only
        ∙ ap
        (λ (q : Port). heard_answer r dropping (octets_asked r number (record { set = only_port port; address = q.address }) (found_of octets)) q.mtu octets)
        same)
