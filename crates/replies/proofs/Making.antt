-- What the reply is made of, over plain variables. Assumes nothing.
use Rattle.std.specs.Prelude.{Some}
use native.Mathlib.Omega.{arith}
use Prim.Native.Nat.{ℕ, ◌+◌, ◌-◌, ◌%◌, ◌≤◌, ◌<◌}
use mathlib.Core.Path.{◌≡◌, sym, ap, ◌∙◌}
use mathlib.Core.Bool.{Bool}
use mathlib.Core.List.{List}
use lib.ListN.{length, drop}
use lib.Dec.{ltb}
use borrow.Author.Tests.{lt-ltb, le-ltb}
use Rattle.std.proofs.Common.{Option}
use Rattle.std.specs.Prelude.{Some, None}
use Rattle.checks.specs.Order.{pick}
use Rattle.octets.specs.Octets.{number, pasted}
use Rattle.octets.proofs.Laws.{number_append, pasted_front}
use Rattle.address.specs.declared.Address.{Address}
use Rattle.header.specs.Limits.{longest_header}
use Rattle.header.specs.Build.{size_of, format_of, stamp_octets}
use Rattle.header.specs.declared.Addresses.{Addresses}
use Rattle.header.specs.declared.Addresses.TheVariants.{BasicEndSystem, ExtendedEndSystem}
use Rattle.header.specs.declared.Qos.{Qos}
use Rattle.header.specs.declared.Timestamp.{Timestamp}
use Rattle.header.specs.declared.Fields.{Fields}
use Rattle.echo.specs.Message.{request_size, reply_size}
use Rattle.echo.specs.declared.Kind.TheVariants as kind
use Rattle.echo.specs.declared.Seen.{Seen}
use Rattle.meaning.specs.Names.{origin_of}
use Rattle.meaning.specs.Flood.{source_in}
use Rattle.next_leg.specs.Leg.{first_hops, data_of}
use Rattle.next_leg.proofs.Made.{small_size}
use Rattle.verdict.specs.declared.Survey.{Survey}
use Rattle.judge.specs.Asked.{no_header}
use Rattle.judge.specs.declared.Asked.{Asked}
use Rattle.replies.specs.Request.{scmp, is_owned}
use Rattle.replies.specs.Reply.{reply_addresses, reply_qos, reply_fields, hops_in, stamp_number, seen_for, least, most_echoed, echoed_count, no_answer, own_fields, asked_by}
use Rattle.replies.specs.declared.Answering.{Answering}
use Rattle.replies.specs.declared.request.Request.{Request}

-- ---- the header
pub addresses_stay : (arrival : Address) (own : Bool) {a : Addresses} (v : Addresses) → a ≡ v → reply_addresses arrival own v ≡ v → v ≡ reply_addresses arrival own a
addresses_stay arrival own v e same = sym (ap (reply_addresses arrival own) e ∙ same)

pub octets_turned : (arrival : Address) (own : Bool) {a : Addresses} (d s : ℕ) {x : ℕ} → a ≡ BasicEndSystem d s → x ≡ pick own d (arrival.0 % 256)
    → BasicEndSystem s x ≡ reply_addresses arrival own a
octets_turned arrival own d s e is = ap (BasicEndSystem s) is ∙ sym (ap (reply_addresses arrival own) e)

pub addresses_turned : (arrival : Address) (own : Bool) {a : Addresses} (d s : Address) {x : Address} → a ≡ ExtendedEndSystem d s → x ≡ pick own d arrival
    → ExtendedEndSystem s x ≡ reply_addresses arrival own a
addresses_turned arrival own d s e is = ap (ExtendedEndSystem s) is ∙ sym (ap (reply_addresses arrival own) e)

pub fields_turned : (arrival : Address) (own : Bool) (f : Fields) {a : Addresses} {q : Option Qos} → a ≡ reply_addresses arrival own f.addresses → q ≡ reply_qos f.qos
    → ◌≡◌ {A = Fields}
    (record {
      tpid = scmp;
      addresses = a;
      qos = q;
      hops = Some first_hops;
      stamp = None;
      expanded = None;
      checksum = 0;
      intermediate = 0;
    })
    (reply_fields arrival own f)
unfolding reply_fields
fields_turned arrival own f ea eq = cc

-- ---- the message
-- the octets of a timestamp, read where they were written
pub stamp_told : (l m : List ℕ) (t : Option Timestamp) {n x : ℕ} → m ≡ pasted l 0 (stamp_octets t) → n ≡ 0 + length (stamp_octets t) → x ≡ number m 0 n → x ≡ stamp_number t
unfolding stamp_number
stamp_told l m t {n} {x} em en is =
    let s = stamp_octets t in
    let size : n ≡ length s = omega (arith, en) in
    is
    ∙ ap (number m 0) size
    ∙ ap (λ (y : List ℕ). number y 0 (length s)) (em ∙ pasted_front l s)
    ∙ number_append s (drop (length s) l) (length s) (omega arith)

pub seen_told : (f : Fields) (mtu : ℕ) {hops format n : ℕ} → hops ≡ hops_in f.hops → format ≡ format_of f.stamp → n ≡ stamp_number f.stamp
    → ◌≡◌ {A = Seen} (record { hops = hops; format = format; stamp = n; mtu = mtu; rate = 0 }) (seen_for f mtu)
unfolding seen_for
seen_told f mtu e1 e2 e3 = cc

-- ---- the data
pub least_is_first : (a b : ℕ) → a < b → a ≡ pick (ltb a b) a b
least_is_first a b h = simp (lt-ltb a b h)

pub least_is_second : (a b : ℕ) → b ≤ a → b ≡ pick (ltb a b) a b
least_is_second a b h = simp (le-ltb a b h)

pub least_told : (mtu size n : ℕ) {x y : ℕ} → x ≡ least n most_echoed → y ≡ least x (mtu - size - reply_size) → y ≡ echoed_count mtu size n
unfolding echoed_count
least_told mtu size n ex ey = ey ∙ ap (λ (k : ℕ). least k (mtu - size - reply_size)) ex

-- ---- none
pub none_told : (n : ℕ) {f : Fields} → f ≡ no_header.fields
    → ◌≡◌ {A = Answering}
    (record {
      refusal = n;
      made = 0;
      fields = f;
      message = record { identifier = 0; sequence = 0; kind = kind.Request };
      from = 0;
      count = 0;
      precedence = 0;
      destination = record { 0 = 0 };
      arrival = record { 0 = 0 };
      ready = 0;
      number = 0;
    })
    (no_answer n)
none_told n e = cc

-- ---- the reply
-- the numbers of its header are small, and so is its size
pub own_small : (arrival : Address) (own : Bool) (f : Fields) {g : Fields} → g ≡ reply_fields arrival own f
    → (g.checksum < 2) × (g.intermediate < 2)
unfolding reply_fields
own_small arrival own f e = rw e (omega arith, omega arith)

pub own_size : (arrival : Address) (own : Bool) (f : Fields) {g : Fields} {n : ℕ} → g ≡ reply_fields arrival own f → n ≡ size_of g → n ≤ longest_header
own_size arrival own f {g} e en = omega (arith, en, small_size g (own_small arrival own f e).0)

module _ (a : Asked) (s : Survey) (mtu : ℕ) (request : Request) {t : Bool} (et : t ≡ is_owned s)
    {g : Fields} (eg : g ≡ reply_fields a.arrival t a.header.fields) {n : ℕ} (en : n ≡ size_of g) where
  fields_are : g ≡ own_fields a s
  fields_are = eg ∙ ap (λ (x : Bool). reply_fields a.arrival x a.header.fields) et

  size_is : n ≡ size_of (own_fields a s)
  size_is = en ∙ ap size_of fields_are

  pub no_room : {e : Answering} → mtu < n + reply_size → e ≡ no_answer 0 → e ≡ asked_by (Some request) a s mtu
  no_room short is = simp (lt-ltb mtu (size_of (own_fields a s) + reply_size) (omega (arith, short, size_is))) is

  pub reply_made_lem : n + reply_size ≤ mtu → {x : Seen} → x ≡ seen_for a.header.fields mtu
      → {count : ℕ} → count ≡ echoed_count mtu n (a.header.length - a.header.size - request_size)
      → {o : Option Address} → o ≡ origin_of a.arrival.0 a.header.fields.addresses → {d : ℕ} → d ≡ source_in o
      → ◌≡◌ {A = Answering}
      (record {
        refusal = 0;
        made = 1;
        fields = g;
        message = record { identifier = request.identifier; sequence = request.sequence; kind = kind.Reply x };
        from = a.header.size + request_size;
        count = count;
        precedence = a.precedence;
        destination = record { 0 = d };
        arrival = a.arrival;
        ready = a.ready;
        number = a.number;
      })
      (asked_by (Some request) a s mtu)
  reply_made_lem enough ex {count} ec eo ed =
      let same = fields_are in
      let counted : count ≡ echoed_count mtu (size_of (own_fields a s)) (data_of a.header - request_size)
      = ec ∙ ap (λ (k : ℕ). echoed_count mtu k (data_of a.header - request_size)) size_is in
      simp (le-ltb mtu (size_of (own_fields a s) + reply_size) (omega (arith, enough, size_is))) cc
