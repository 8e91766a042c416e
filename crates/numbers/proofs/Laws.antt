-- The numbers of fields, made of what is answered for each of them: said over plain variables, since the context of a function's proof
-- makes the same step slow. Assumes nothing.
use Prim.Native.Nat.{ℕ}
use mathlib.Core.Path.{◌≡◌}
use Rattle.header.specs.Build.{source_flag, extended_flag, ipv6_flag, qos_flag, octet_flag, format_of}
use Rattle.header.specs.declared.Fields.{Fields}
use Rattle.numbers.specs.Numbers.{destination_number, source_number, precedence_number, routing_number, program_number, octet_number, time_number, pfield_number, numbers_of}
use Rattle.numbers.specs.declared.Wide.{Wide}

pub made : (f : Fields) {destination source : Wide} {time sourced extended ipv6 qualified precedence routing program counted hops format pfield expands expanded : ℕ}
    → destination ≡ destination_number f.addresses → source ≡ source_number f.addresses → time ≡ time_number f.stamp → sourced ≡ source_flag f.addresses
    → extended ≡ extended_flag f.addresses → ipv6 ≡ ipv6_flag f.addresses → qualified ≡ qos_flag f.qos → precedence ≡ precedence_number f.qos
    → routing ≡ routing_number f.qos → program ≡ program_number f.qos → counted ≡ octet_flag f.hops → hops ≡ octet_number f.hops
    → format ≡ format_of f.stamp → pfield ≡ pfield_number f.stamp → expands ≡ octet_flag f.expanded → expanded ≡ octet_number f.expanded
    → record {
      destination = destination;
      source = source;
      time = time;
      tpid = f.tpid;
      sourced = sourced;
      extended = extended;
      ipv6 = ipv6;
      qualified = qualified;
      precedence = precedence;
      routing = routing;
      program = program;
      counted = counted;
      hops = hops;
      format = format;
      pfield = pfield;
      expands = expands;
      expanded = expanded;
      checksum = f.checksum;
      intermediate = f.intermediate;
    } ≡ numbers_of f
unfolding numbers_of
made f a b c d e g h i j k l m n o p q = rw (a, b, c, d, e, g, h, i, j, k, l, m, n, o, p, q)
