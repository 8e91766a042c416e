-- The fields that numbers stand for are within the bounds of their types. Assumes nothing.
use native.Mathlib.Omega.{arith}
use lib.Dec.{eqb}
use Rattle.checks.proofs.Laws.{either}
use Rattle.header.specs.Range.{AddressesFit, OctetFits, QosTyped, StampTyped, Typed}
use Rattle.numbers.specs.declared.Numbers.{Numbers}
use Rattle.numbers.specs.Words.{Words}
use Rattle.numbers.specs.Fields.{addresses_from, qos_from, octet_from, stamp_from, fields_from}

addresses_typed : (n : Numbers) → Words n → AddressesFit (addresses_from n)
unfolding addresses_from
addresses_typed n w =
    either AddressesFit (eqb n.ipv6 1) (w.destination, w.source)
    (either AddressesFit (eqb n.extended 1)
    (either AddressesFit (eqb n.sourced 1) (omega arith, omega arith) (omega arith))
    (either AddressesFit (eqb n.sourced 1) (omega arith, omega arith) (omega arith)))

stamp_typed : (n : Numbers) → Words n → StampTyped (stamp_from n)
unfolding stamp_from
stamp_typed n w =
    either StampTyped (eqb n.format 0) tt
    (either StampTyped (eqb n.format 1) w.time (either StampTyped (eqb n.format 2) (omega arith, w.time) w.time))

-- the fields that numbers stand for are within their types
pub typed : (n : Numbers) → Words n → Typed (fields_from n)
unfolding fields_from qos_from octet_from
typed n w =
    record {
      tpid = omega arith;
      addresses = addresses_typed n w;
      qos = either QosTyped (eqb n.qualified 0) tt (omega arith, (omega arith, omega arith));
      hops = either OctetFits (eqb n.counted 0) tt (omega arith);
      stamp = stamp_typed n w;
      expanded = either OctetFits (eqb n.expands 0) tt (omega arith);
      checksum = omega arith;
      intermediate = omega arith;
    }
