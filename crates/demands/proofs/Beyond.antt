-- Octets beyond the length field change nothing of what an echo request is answered: two strings of which the same is read, and which are the same as far as
-- the length field says, get the same reply, with the same data in it. Assumes nothing.
use Rattle.std.specs.Prelude.{Option, Some, None}
use native.Mathlib.Omega.{arith}
use Prim.Native.Nat.{ℕ, zero, suc, ◌-◌, ◌≤◌}
use mathlib.Core.Path.{◌≡◌, refl, sym, ap, ◌∙◌}
use mathlib.Core.Bool.{Bool, true, false}
use mathlib.Core.List.{List, [], ◌∷◌}
use lib.ListN.{take, drop}
use lib.Seq.{take-take, take-nil, drop-nil}
use lib.Dec.{eqb}
use Rattle.checks.specs.Order.{pick, first_of}
use Rattle.checks.proofs.Laws.{either}
use Rattle.header.specs.Read.{length_of, header_of, read_checks, read_of, Read}
use Rattle.header.specs.Onward.{renewal_of, found_of}
use Rattle.header.specs.declared.Header.{Header}
use Rattle.checks.specs.Told.{Good, Refused}
use Rattle.header.specs.declared.Renewal.{Renewal}
use Rattle.header.proofs.Refusals.{read_good}
use Rattle.echo.specs.Message.{reading_of}
use Rattle.meaning.specs.Arrival.{arrival_checks}
use Rattle.meaning.specs.Names.{aim_of}
use Rattle.meaning.specs.declared.Aim.{Aim}
use Rattle.meaning.specs.declared.Aim.TheVariants as aim
use Rattle.next_leg.specs.Leg.{data_of}
use Rattle.state.specs.Relay.{Relay, port_in}
use Rattle.verdict.specs.declared.Survey.{Survey}
use Rattle.judge.specs.Ending.{arrival_at}
use Rattle.judge.specs.Asked.{no_header, refused_asked, node_asked, path_asked, aim_asked, carried_asked, octets_asked}
use Rattle.judge.specs.declared.ruling.Arrival.{Arrival}
use Rattle.judge.specs.declared.Asked.{Asked}
use Rattle.replies.specs.Request.{user_data, asking_in, asking_of}
use Rattle.replies.specs.Reply.{no_answer, asked_by, is_asked, answer_to}
use Rattle.replies.specs.Replied.{call_checks, answering_of, destination_survey, heard_answer, echoed_of}
use Rattle.replies.specs.declared.Answering.{Answering}
use Rattle.replies.specs.declared.request.Request.{Request}
use Rattle.page.proofs.Answered.{made_tells}

-- ---- octets within the first n are there in these
drop_take : (k n : ℕ) (l : List ℕ) → drop k (take n l) ≡ take (n - k) (drop k l)
drop_take zero n l = let z : n - 0 ≡ n = omega arith in rw z
drop_take (suc k) zero l = let z : 0 - suc k ≡ 0 = omega arith in rw z
drop_take (suc k) (suc n) [] = rw (drop-nil {A = ℕ} (suc k), take-nil {A = ℕ} (suc n - suc k))
drop_take (suc k) (suc n) (x ∷ l) = let z : suc n - suc k ≡ n - k = omega arith in rw z (drop_take k n l)

within : (c k n : ℕ) (s t : List ℕ) → c ≤ n - k → take n t ≡ take n s → take c (drop k t) ≡ take c (drop k s)
within c k n s t few same =
    sym (take-take c (n - k) (drop k t) few)
    ∙ ap (take c) (sym (drop_take k n t) ∙ ap (drop k) same ∙ drop_take k n s)
    ∙ take-take c (n - k) (drop k s) few

-- ---- what is asked, but for where the header differs when it is sent on, which no reply asks for
abbrev no_renewal : Renewal
no_renewal = record { hops = 0; counted = 0; checksum = 0; summed = 0 }

abbrev plain : Asked → Asked
plain a =
    record {
      refusal = a.refusal;
      target = a.target;
      place = a.place;
      case = a.case;
      ready = a.ready;
      destination = a.destination;
      number = a.number;
      precedence = a.precedence;
      arrival = a.arrival;
      header = a.header;
      renewal = no_renewal;
    }

plain_by : (x : Option Request) (a : Asked) (s : Survey) (mtu : ℕ) → asked_by x a s mtu ≡ asked_by x (plain a) s mtu
plain_by (Some request) a s mtu = refl
plain_by None a s mtu = refl

plain_answer : (dropping : ℕ) (a : Asked) (s : Survey) (mtu : ℕ) (octets : List ℕ) → answer_to dropping a s mtu octets ≡ answer_to dropping (plain a) s mtu octets
unfolding answer_to is_asked
plain_answer dropping a s mtu octets =
    ap (λ (y : Answering). pick (is_asked dropping a s) y (no_answer 0)) (plain_by (asking_of a.header octets) a s mtu)

-- ---- by what is read alone
module _ (r : Relay) (number : ℕ) (at : Arrival) where
  abbrev asked_read : Read → Asked
  asked_read (Good h) = plain (carried_asked r number at h no_renewal)
  asked_read (Refused n) = refused_asked n

  aim_plain : (h : Header) (c : Renewal) (x : Aim) → plain (aim_asked r number at h c x) ≡ plain (aim_asked r number at h no_renewal x)
  unfolding aim_asked node_asked path_asked
  aim_plain h c (aim.Node a) = refl
  aim_plain h c (aim.Path p) = refl
  aim_plain h c aim.Uncarried = refl

  carried_plain : (h : Header) (c : Renewal) → plain (carried_asked r number at h c) ≡ plain (carried_asked r number at h no_renewal)
  unfolding carried_asked
  carried_plain h c = by (first_of (arrival_checks at.address h.fields)) (eqb (first_of (arrival_checks at.address h.fields)) 0)
    where
      x : Aim
      x = aim_of at.address.0 h.fields.addresses

      by : (n : ℕ) (t : Bool) → plain (pick t (aim_asked r number at h c x) (refused_asked n)) ≡ plain (pick t (aim_asked r number at h no_renewal x) (refused_asked n))
      by n true = aim_plain h c x
      by n false = refl

  found_plain : (s : List ℕ) → plain (octets_asked r number at (found_of s)) ≡ asked_read (read_of s)
  unfolding found_of read_of
  found_plain s = by (first_of (read_checks s)) (eqb (first_of (read_checks s)) 0)
    where
      by : (n : ℕ) (t : Bool)
          → plain (octets_asked r number at (pick t (Good (header_of s, renewal_of s)) (Refused n))) ≡ asked_read (pick t (Good (header_of s)) (Refused n))
      by n true = carried_plain (header_of s) (renewal_of s)
      by n false = refl

  -- its header is the one that was read, or none
  aim_header : (P : Header → Type 0) (h : Header) (x : Aim) → P no_header → P h → P (aim_asked r number at h no_renewal x).header
  unfolding aim_asked node_asked path_asked
  aim_header P h (aim.Node a) none is = is
  aim_header P h (aim.Path p) none is = is
  aim_header P h aim.Uncarried none is = none

  read_header : (P : Header → Type 0) (x : Read) → P no_header → ((h : Header) → x ≡ Good h → P h) → P (asked_read x).header
  unfolding carried_asked
  read_header P (Good h) none is =
      either (λ (a : Asked). P a.header) (eqb (first_of (arrival_checks at.address h.fields)) 0)
      (aim_header P h (aim_of at.address.0 h.fields.addresses) none (is h refl)) none
  read_header P (Refused n) none is = none

header_length : (s : List ℕ) → (header_of s).length ≡ length_of s
unfolding header_of
header_length s = refl

-- ---- two strings that are alike up to the length field
module _ (s t : List ℕ) (n : ℕ) (long : length_of s ≤ n) (AgreeAt : take n t ≡ take n s) (same : read_of t ≡ read_of s) where
  abbrev Alike : Header → Type 0
  Alike h = user_data h t ≡ user_data h s

  header_alike : (h : Header) → read_of s ≡ Good h → Alike h
  header_alike h is =
      let length_is : h.length ≡ length_of s = ap (λ (k : Header). k.length) ((read_good s h).0 is).1 ∙ header_length s in
      within (data_of h) h.size n s t (omega (arith, long, length_is)) AgreeAt

  module _ (r : Relay) (number dropping port room : ℕ) where
    abbrev heard : List ℕ → Asked
    heard octets = octets_asked r number (arrival_at r port) (found_of octets)

    abbrev answer_for : Asked → List ℕ → Answering
    answer_for a octets = heard_answer r dropping a (port_in r port).mtu octets

    plain_heard : (octets : List ℕ) → answer_for (heard octets) octets ≡ answer_for (asked_read r number (arrival_at r port) (read_of octets)) octets
    plain_heard octets =
        plain_answer dropping (heard octets) (destination_survey r (heard octets)) (port_in r port).mtu octets
        ∙ ap (λ (a : Asked). answer_for a octets) (found_plain r number (arrival_at r port) octets)

    octets_alike : (a : Asked) → Alike a.header → answer_for a t ≡ answer_for a s
    unfolding answer_to asking_of
    octets_alike a is =
        ap
        (λ (l : List ℕ).
        pick (is_asked dropping a (destination_survey r a)) (asked_by (asking_in (reading_of l)) a (destination_survey r a) (port_in r port).mtu) (no_answer 0)) is

    heard_alike : answer_for (heard t) t ≡ answer_for (heard s) s
    heard_alike =
        let a = asked_read r number (arrival_at r port) in
        plain_heard t
        ∙ ap (λ (x : Read). answer_for (a x) t) same
        ∙ octets_alike (a (read_of s)) (read_header r number (arrival_at r port) Alike (read_of s) refl header_alike)
        ∙ sym (plain_heard s)

    pub answering_alike : answering_of r number dropping port t room ≡ answering_of r number dropping port s room
    unfolding answering_of
    answering_alike =
        ap (λ (y : Answering). pick (eqb (first_of (call_checks r port room)) 0) y (no_answer (first_of (call_checks r port room)))) heard_alike

    -- and the data that are sent back are the same
    pub echoed_alike : (answering_of r number dropping port s room).made ≡ 1
        → echoed_of (answering_of r number dropping port s room) t ≡ echoed_of (answering_of r number dropping port s room) s
    echoed_alike one =
        let a = answering_of r number dropping port s room in
        let tells = (made_tells r number dropping port s room one).1 in
        within a.count a.from n s t (omega (arith, long, header_length s, tells.from, tells.within)) AgreeAt
