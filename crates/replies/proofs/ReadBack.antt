-- A reply reads back: as it is made and as it goes, with the fields and the length that it was made of, and its message; and it asks for no reply, so that two relays
-- never answer each other for ever. Assumes nothing.
use Rattle.std.specs.Prelude.{None}
use native.Mathlib.Omega.{arith}
use Prim.Native.Nat.{ℕ, zero, suc, ◌+◌, ◌-◌, ◌/◌, ◌%◌, ◌^◌, ◌≤◌, ◌<◌}
use mathlib.Core.Path.{◌≡◌, refl, ap, subst⁻¹, ◌∙◌}
use mathlib.Core.Bool.{Bool}
use mathlib.Core.List.{List, [], ◌∷◌, ◌++◌}
use lib.ListN.{length, get_or, take, drop}
use lib.Seq.{take_all, drop_at, get_or-drop}
use Rattle.std.specs.Prelude.{Option, Some, None}
use Rattle.checks.proofs.Laws.{either}
use Rattle.octets.specs.Octets.{octets}
use Rattle.address.specs.declared.Address.{Address}
use Rattle.header.specs.Limits.{most_data}
use Rattle.header.specs.Read.{read_of}
use Rattle.header.specs.Build.{size_of, header_octets}
use Rattle.header.specs.Range.{AddressesFit, QosFits, InRange}
use Rattle.header.specs.declared.Addresses.{Addresses}
use Rattle.header.specs.declared.Addresses.TheVariants.{BasicPath, ExtendedPath, BasicEndSystem, ExtendedEndSystem, Ipv6}
use Rattle.header.specs.declared.Qos.{Qos}
use Rattle.header.specs.declared.Fields.{Fields}
use Rattle.header.specs.declared.Header.{Header}
use Rattle.checks.specs.Told.{Good, Refused}
use Rattle.header.proofs.BuiltLaws.{header_length, append_small}
use Rattle.header.proofs.Trip.{read_built}
use Rattle.echo.specs.Message.{fixed_size, seen_octets, kind_octets, fixed_octets, message_octets, reading_of, Reading}
use Rattle.echo.specs.declared.Kind.{Kind}
use Rattle.echo.specs.declared.Kind.TheVariants as kind
use Rattle.echo.specs.declared.Seen.{Seen}
use Rattle.echo.specs.declared.Message.{Message}
use Rattle.echo.proofs.Trip.{written_length, reply_no_request}
use Rattle.next_leg.specs.Leg.{asks_checksum}
use Rattle.next_leg.proofs.Made.{checksum_case}
use Rattle.next_leg.proofs.ReadBack.{widened_fits}
use Rattle.replies.specs.Request.{user_data, asking_by, asking_in}
use Rattle.replies.specs.Reply.{reply_addresses, reply_qos, reply_fields}
use Rattle.replies.specs.Replied.{wire_fields}

-- ---- its fields are in range, where the request's are
turned_fits : (at : Address) (own : Bool) (a : Addresses) → at.0 < 2 ^ 32 → AddressesFit a → AddressesFit (reply_addresses at own a)
turned_fits at own (BasicPath z) small fits = fits
turned_fits at own (ExtendedPath p) small fits = fits
turned_fits at own (BasicEndSystem d s) small fits = (fits.1, either (λ (n : ℕ). n < 256) own fits.0 (omega arith))
turned_fits at own (ExtendedEndSystem d s) small fits = (fits.1, either (λ (x : Address). x.0 < 256 ^ 4) own fits.0 (omega (arith, small)))
turned_fits at own (Ipv6 d s) small fits = fits

qos_fits : (q : Option Qos) → QosFits q → QosFits (reply_qos q)
qos_fits None fits = tt
qos_fits (Some q) fits = (fits.0, (omega arith, omega arith))

pub reply_range : (at : Address) (own : Bool) (f : Fields) → at.0 < 2 ^ 32 → InRange f → InRange (reply_fields at own f)
unfolding reply_fields
reply_range at own f small r =
    record {
      tpid = omega arith;
      addresses = turned_fits at own f.addresses small r.addresses;
      qos = qos_fits f.qos r.qos;
      hops = omega arith;
      stamp = tt;
      expanded = tt;
      checksum = omega arith;
      intermediate = omega arith;
    }

pub wire_range : (far : Bool) (at code : ℕ) (f : Fields) → at < 2 ^ 32 → InRange f → InRange (wire_fields far at code f)
unfolding wire_fields
wire_range far at code f small r =
    record {
      tpid = r.tpid;
      addresses = either AddressesFit far (widened_fits at f.addresses small r.addresses) r.addresses;
      qos = r.qos;
      hops = r.hops;
      stamp = r.stamp;
      expanded = r.expanded;
      checksum = checksum_case (asks_checksum code) f.checksum r.checksum;
      intermediate = r.intermediate;
    }

-- ---- a header and a message behind it
module _ (f : Fields) (m : Message) (echoed : List ℕ) (n : ℕ) (count : fixed_size m.kind + length echoed ≡ n) (few : n ≤ most_data) (range : InRange f) where
  abbrev whole : List ℕ
  whole = header_octets f n ++ message_octets m echoed

  abbrev front : Header
  front = record { fields = f; length = size_of f + n; size = size_of f }

  message_length : length (message_octets m echoed) ≡ n
  message_length = written_length m echoed ∙ count

  pub whole_reads : read_of whole ≡ Good front
  whole_reads = read_built f n (message_octets m echoed) range few (omega (arith, message_length))

  -- the user data are the message
  pub whole_data : user_data front whole ≡ message_octets m echoed
  whole_data =
      let size : size_of f + n - size_of f ≡ n = omega arith in
      ap (λ (k : ℕ). take k (drop (size_of f) whole)) size
      ∙ ap (take n) (drop_at (header_octets f n) (message_octets m echoed) (size_of f) (header_length f n range.checksum))
      ∙ take_all n (message_octets m echoed) (omega (arith, message_length))

-- ---- a reply asks for nothing
by_kind : (m told : Message) (echoed : List ℕ) (s : Seen) → m.kind ≡ kind.Reply s → reading_of (message_octets m echoed) ≡ Good told
    → (k : Kind) → told.kind ≡ k → asking_by k told.identifier told.sequence ≡ None
by_kind m told echoed s e is kind.Request ek = absurd (reply_no_request m told echoed s e is ek)
by_kind m told echoed s e is (kind.Reply x) ek = refl

by_reading : (m : Message) (echoed : List ℕ) (s : Seen) → m.kind ≡ kind.Reply s → (x : Reading) → reading_of (message_octets m echoed) ≡ x → asking_in x ≡ None
by_reading m echoed s e (Good told) is = by_kind m told echoed s e is told.kind refl
by_reading m echoed s e (Refused n) is = refl

pub reply_asks_nothing : (m : Message) (echoed : List ℕ) (s : Seen) → m.kind ≡ kind.Reply s → asking_in (reading_of (message_octets m echoed)) ≡ None
reply_asks_nothing m echoed s e = by_reading m echoed s e (reading_of (message_octets m echoed)) refl

-- ---- each octet is under 256, where the data's are
abbrev pub Octets : List ℕ → Type 0
Octets s = (i : ℕ) → get_or s i 0 < 256

one_small : (v : ℕ) → Octets (v % 256 ∷ [])
one_small v zero = omega arith
one_small v (suc i) = omega arith

pub octets_small : (n v : ℕ) → Octets (octets n v)
unfolding octets
octets_small zero v i = omega arith
octets_small (suc n) v i = append_small (octets n (v / 256)) (v % 256 ∷ []) (octets_small n (v / 256)) (one_small v) i

kind_small : (k : Kind) → Octets (kind_octets k)
unfolding seen_octets
kind_small kind.Request = λ i. omega arith
kind_small (kind.Reply s) = search (append_small, octets_small) depth 7

pub message_small : (m : Message) (echoed : List ℕ) → Octets echoed → Octets (message_octets m echoed)
unfolding message_octets fixed_octets
message_small m echoed small = search (append_small, octets_small, kind_small, small) depth 9

pub take_small : (n : ℕ) (l : List ℕ) → Octets l → Octets (take n l)
take_small zero l small i = omega arith
take_small (suc n) [] small i = omega arith
take_small (suc n) (x ∷ l) small zero = small 0
take_small (suc n) (x ∷ l) small (suc i) = take_small n l (λ j. small (suc j)) i

pub drop_small : (n : ℕ) (l : List ℕ) → Octets l → Octets (drop n l)
drop_small n l small i = subst⁻¹ (λ (x : ℕ). x < 256) (get_or-drop n l i 0) (small (n + i))
