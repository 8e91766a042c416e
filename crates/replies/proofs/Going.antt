-- Whether and how a reply goes, over plain variables. Assumes nothing.
use Rattle.std.specs.Prelude.{Option, Some, None}
use native.Mathlib.Omega.{arith}
use Prim.Native.Nat.{ℕ, ◌+◌, ◌*◌, ◌≤◌, ◌<◌}
use mathlib.Core.Path.{◌≡◌, sym, ap, ◌∙◌}
use mathlib.Core.Bool.{Bool, true, false, not}
use lib.Dec.{eqb}
use borrow.Author.Tests.{eq-eqb, ne_eqb, lt-ltb, le-ltb}
use Rattle.checks.specs.Order.{pick}
use Rattle.header.specs.Limits.{longest_header, length_limit}
use Rattle.header.specs.Build.{size_of}
use Rattle.header.specs.declared.Addresses.{Addresses}
use Rattle.header.specs.declared.Fields.{Fields}
use Rattle.echo.specs.Message.{reply_size}
use Rattle.networks.specs.Networks.{domain_of}
use Rattle.next_leg.specs.Leg.{asks_checksum, addresses_next, checksum_next}
use Rattle.next_leg.proofs.Made.{checksum_case, small_size}
use Rattle.state.specs.Relay.{Relay}
use Rattle.survey.specs.Survey.{wanted_of}
use Rattle.survey.specs.declared.Sought.{Sought}
use Rattle.verdict.specs.Rule.{except_by, large_enough, ruling_of}
use Rattle.verdict.specs.declared.Local.TheVariants.{No}
use Rattle.verdict.specs.declared.Obstacle.TheVariants.{NoRoute}
use Rattle.verdict.specs.declared.Ruling.{Ruling}
use Rattle.verdict.specs.declared.Survey.{Survey}
use Rattle.verdict.specs.declared.Way.{Way}
use Rattle.verdict.specs.declared.Wish.{Wish}
use Rattle.verdict.specs.declared.Wish.TheVariants.{NotAsked, Refused}
use Rattle.replies.specs.Replied.{wire_fields, wire_length, within_room, sought_for, no_reply, replied_among, replied_via, replied_to, Made}
use Rattle.replies.specs.declared.Answering.{Answering}
use Rattle.replies.specs.declared.sending.Replied.{Replied}

-- ---- on the wire
pub fields_wired : (far : Bool) (a : Answering) (code : ℕ) {x : Addresses} {c : ℕ}
    → x ≡ addresses_next far a.arrival.0 a.fields.addresses → c ≡ checksum_next code a.fields.checksum
    → ◌≡◌ {A = Fields}
    (record {
      tpid = a.fields.tpid;
      addresses = x;
      qos = a.fields.qos;
      hops = a.fields.hops;
      stamp = a.fields.stamp;
      expanded = a.fields.expanded;
      checksum = c;
      intermediate = a.fields.intermediate;
    })
    (wire_fields far a.arrival.0 code a.fields)
unfolding wire_fields
fields_wired far a code ea ec = cc

-- they are as narrow as the reply's own
pub wired_small : (far : Bool) (a : Answering) (code : ℕ) {f : Fields} → Made a → f ≡ wire_fields far a.arrival.0 code a.fields
    → (f.tpid < 16) × ((f.checksum < 2) × (f.intermediate < 2))
unfolding wire_fields
wired_small far a code m e = rw e (m.tpid, (checksum_case (asks_checksum code) a.fields.checksum m.checksum, m.intermediate))

-- a header has 50 octets at the most, and all is under twice the limit
pub wired_size : (far : Bool) (a : Answering) (code : ℕ) {f : Fields} {n : ℕ} → Made a → f ≡ wire_fields far a.arrival.0 code a.fields → n ≡ size_of f
    → (n ≤ longest_header) × (a.count ≤ length_limit)
wired_size far a code {f} m e en = (omega (arith, en, small_size f (wired_small far a code m e).1.0), omega (arith, m.count))

pub length_wired : (far : Bool) (a : Answering) (code : ℕ) {f : Fields} {n : ℕ} → Made a → f ≡ wire_fields far a.arrival.0 code a.fields → n ≡ size_of f
    → (n + reply_size + a.count ≡ wire_length far a code) × (n + reply_size + a.count < 2 * length_limit)
unfolding wire_length
length_wired far a code m e en =
    let small = wired_size far a code m e en in
    let is = en ∙ ap size_of e in
    (omega (arith, is), omega (arith, small.0, m.count))

-- ---- what the ports are asked
pub over_room : (room size : ℕ) → room < size → length_limit ≡ within_room room size
over_room room size h = simp (lt-ltb room size h)

pub under_room : (room size : ℕ) → size ≤ room → size ≡ within_room room size
under_room room size h = simp (le-ltb room size h)

pub sought_told : (a : Answering) (code room : ℕ) {domain near far x y : ℕ} → domain ≡ domain_of a.arrival → near ≡ wire_length false a code
    → x ≡ within_room room near → far ≡ wire_length true a code → y ≡ within_room room far
    → ◌≡◌ {A = Sought} (record { domain = domain; near = x; far = y }) (sought_for a code room)
sought_told a code room e1 e2 e3 e4 e5 =
    let near = e3 ∙ ap (within_room room) e2 in
    let far = e5 ∙ ap (within_room room) e4 in
    cc

-- ---- the ruling
pub none_goes : (n : ℕ) {x : Ruling} → x ≡ ruling_of No NotAsked 0
    → ◌≡◌ {A = Replied} (record { refusal = n; ruling = x; precedence = 0; code = 0; far = 0; octets = 0 }) (no_reply n)
unfolding ruling_of
none_goes n e = cc

pub none_taken : (took far : ℕ) (a : Answering) (code : ℕ) → took ≡ 0 → 0 ≡ pick (eqb took 0) 0 (wire_length (not (eqb far 0)) a code)
none_taken took far a code h = simp (eq-eqb took 0 h)

pub some_taken : (took far : ℕ) (a : Answering) (code : ℕ) {n : ℕ} → (took ≡ 0 → ⊥) → n ≡ wire_length (not (eqb far 0)) a code
    → n ≡ pick (eqb took 0) 0 (wire_length (not (eqb far 0)) a code)
some_taken took far a code h is = simp (ne_eqb took 0 h) is

abbrev by_ruling : Answering → ℕ → Survey → Ruling → Replied
by_ruling a code s x =
    record {
      refusal = 0;
      ruling = x;
      precedence = a.precedence;
      code = code;
      far = except_by x.took s.domain;
      octets = pick (eqb x.took 0) 0 (wire_length (not (eqb (except_by x.took s.domain) 0)) a code);
    }

pub among_told : (a : Answering) (set code : ℕ) (s : Survey) {w : Wish} {x : Ruling} {far n : ℕ} → w ≡ large_enough set s.fitting
    → x ≡ ruling_of No w s.full → far ≡ except_by x.took s.domain → n ≡ pick (eqb x.took 0) 0 (wire_length (not (eqb far 0)) a code)
    → ◌≡◌ {A = Replied} (record { refusal = 0; ruling = x; precedence = a.precedence; code = code; far = far; octets = n }) (replied_among a set code s)
unfolding replied_among
among_told a set code s {w} {x} {far} {n} ew ex ef en =
    let octets : n ≡ pick (eqb x.took 0) 0 (wire_length (not (eqb (except_by x.took s.domain) 0)) a code)
    = en ∙ ap (λ (k : ℕ). pick (eqb x.took 0) 0 (wire_length (not (eqb k 0)) a code)) ef in
    let e : Replied = record { refusal = 0; ruling = x; precedence = a.precedence; code = code; far = far; octets = n } in
    let first : e ≡ by_ruling a code s x = cc in
    first ∙ ap (by_ruling a code s) (ex ∙ ap (λ (y : Wish). ruling_of No y s.full) ew)

pub by_port : (r : Relay) (a : Answering) (room : ℕ) {w : Option Way} (set code : ℕ) {q : Sought} {s : Survey} {e : Replied} → w ≡ Some (record { port = set; code = code })
    → q ≡ sought_for a code room → s ≡ wanted_of r set q → e ≡ replied_among a set code s → e ≡ replied_via r a w room
by_port r a room set code ew eq es is =
    is ∙ ap (replied_among a set code) (es ∙ ap (wanted_of r set) eq) ∙ sym (ap (λ (x : Option Way). replied_via r a x room) ew)

pub by_none : (r : Relay) (a : Answering) (room : ℕ) {w : Option Way} {x : Ruling} → w ≡ None → x ≡ ruling_of No (Refused NoRoute) 0
    → ◌≡◌ {A = Replied} (record { refusal = 0; ruling = x; precedence = a.precedence; code = 0; far = 0; octets = 0 }) (replied_via r a w room)
by_none r a room {w} {x} ew ex =
    let e : Replied = record { refusal = 0; ruling = x; precedence = a.precedence; code = 0; far = 0; octets = 0 } in
    let lost : e ≡ replied_via r a None room = cc in
    lost ∙ sym (ap (λ (y : Option Way). replied_via r a y room) ew)

module _ (r : Relay) (a : Answering) (w : Option Way) (room : ℕ) {e : Replied} where
  pub not_made : a.made ≡ 0 → e ≡ no_reply a.refusal → e ≡ replied_to r a w room
  unfolding replied_to
  not_made h is = simp (eq-eqb a.made 0 h) is

  pub is_made_lem : (a.made ≡ 0 → ⊥) → e ≡ replied_via r a w room → e ≡ replied_to r a w room
  unfolding replied_to
  is_made_lem h is = simp (ne_eqb a.made 0 h) is
