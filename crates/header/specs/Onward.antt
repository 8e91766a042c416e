-- A header that is kept (page 01, "One received datagram", the end of "Onward half"): as it came, hop count less one and checksum redone, where present.
-- Assumes nothing.
use Rattle.std.specs.Prelude.{ℕ, ◌-◌, List, ◌++◌, set, take, eqb, Option, Some, None}
use Rattle.checks.specs.Order.{pick, first_of}
use Rattle.octets.specs.Octets.{octet}
use Rattle.header.specs.Form.{control_of, places_of, has_hops, has_checksum}
use Rattle.header.specs.Build.{checksum_octets}
use Rattle.header.specs.Read.{header_of, read_checks}
use Rattle.header.specs.declared.Header.{Header}
use Rattle.header.specs.declared.Renewal.{Renewal}
use Rattle.checks.specs.Told.{Told, told_by}

-- the octet at a place less one, where that element is on; 0 stays 0
unfoldable pub lessened : ℕ → ℕ → List ℕ → List ℕ
lessened on at l = pick (eqb on 1) (set l at (octet l at - 1)) l

-- the octets before the checksum, as they go on
unfoldable pub sent_body : List ℕ → List ℕ
sent_body s = lessened (has_hops (control_of s)) (places_of s).hops (take (places_of s).checksum s)

unfoldable pub header_sent_on : List ℕ → List ℕ
header_sent_on s = sent_body s ++ checksum_octets (has_checksum (control_of s)) (sent_body s)

-- a hop count less one, where there is one
abbrev pub one_less : Option ℕ → Option ℕ
one_less None = None
one_less (Some v) = Some (v - 1)

-- a header with another hop count
abbrev pub with_hops : Option ℕ → Header → Header
with_hops hops h =
    record {
      fields = record {
        tpid = h.fields.tpid;
        addresses = h.fields.addresses;
        qos = h.fields.qos;
        hops = hops;
        stamp = h.fields.stamp;
        expanded = h.fields.expanded;
        checksum = h.fields.checksum;
        intermediate = h.fields.intermediate;
      };
      length = h.length;
      size = h.size;
    }

-- where it differs from the header that came
unfoldable pub renewal_of : List ℕ → Renewal
renewal_of s =
    record { hops = (places_of s).hops; counted = has_hops (control_of s); checksum = (places_of s).checksum; summed = has_checksum (control_of s) }

-- what is told of both: the header and that, or the first check's number
abbrev pub Found : Type 0
Found = Told (Header × Renewal)

abbrev pub found_by : ℕ → Header → Renewal → Found
found_by n h r = told_by n (h, r)

unfoldable pub found_of : List ℕ → Found
found_of s = found_by (first_of (read_checks s)) (header_of s) (renewal_of s)
