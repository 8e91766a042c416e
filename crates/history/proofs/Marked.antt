-- Page 01's marked cases a to l, together: the one statement over the table of specs/Marked.antt. Assumes nothing.
use native.Mathlib.Omega.{arith}
use Prim.Native.Nat.{ℕ, zero, suc, ◌<◌}
use mathlib.Core.Path.{◌≡◌, refl}
use Rattle.checks.specs.Order.{first_of}
use Rattle.octets.specs.Octets.{number}
use Rattle.address.specs.Class.{family_of, scps_class, net_class, class_in, class_of}
use Rattle.address.specs.Mask.{mask_form, ones_below, ones_of}
use Rattle.header.specs.Form.{control_of, forbidden, address_size, stamp_size, layout_of}
use Rattle.header.specs.Read.{addresses_of, qos_of, octet_of, stamp_of, length_of, fields_of, header_of, read_checks, read_of}
use Rattle.meaning.specs.Names.{aim_of, origin_of}
use Rattle.networks.specs.Networks.{subnet_broadcast, broadcast_in, class_broadcast}
use Rattle.survey.specs.Survey.{own_broadcast, survey_below, named_below}
use Rattle.verdict.specs.Rule.{target_of, local_of, route_line, plain_line, line_of, granted_of, copies_of, ruling_of}
use Rattle.next_leg.specs.Leg.{rewrites, next_length}
use Rattle.judge.specs.Ruling.{ruled_by, rule_target, rule_of}
use Rattle.floods.specs.Memory.{flood_of, remembering}
use Rattle.judge.specs.Ending.{call_checks, header_ending, ending_of}
use Rattle.judge.specs.Remembered.{header_memory, memory_of}
use Rattle.settings.specs.Refusals.{other_class, port_mask_refused, form_refused, ones_refused}
use Rattle.records.specs.Owned.{seen_port}
use Rattle.routes.specs.Refusals.{prefix_refused, codes_refused}
use Rattle.routes.specs.Routes.{matched, candidate}
use Rattle.routes.specs.Search.{beaten, better_of, search_from, search_of}
use Rattle.queue.specs.Order.{Each, insert_by}
use Rattle.queue.specs.Queue.{fresh, put_of, take_of}
use Rattle.state.specs.Relay.{among_ports, ready_of}
use Rattle.state.specs.Seen.{fresh_board, fresh_mission, fresh_memory, ports_seen, all_ports}
use Rattle.listing.specs.Listed.{stands, counts, seen_route, routes_seen}
use Rattle.relay.specs.Outgoing.{entered_if, entered_all}
use Rattle.relay.specs.Received.{received_relay, heard_ending, heard_memory}
use Rattle.taking.specs.Taking.{take_outcome, taken_relay}
use Rattle.history.specs.Outcome.{outcome, seat_after}
use Rattle.history.specs.Marked.{Marked, marked_cases}

-- the rules, opened all at once: where this is unfolded, the calls of a closed history compute
unfoldable pub opened : Unit {0}
unfolding first_of class_of class_in family_of scps_class net_class other_class port_mask_refused form_refused ones_refused mask_form ones_of ones_below fresh fresh_board fresh_mission fresh_memory seen_port ports_seen all_ports ready_of among_ports stands counts seen_route routes_seen prefix_refused codes_refused number control_of forbidden address_size stamp_size layout_of addresses_of qos_of octet_of stamp_of length_of fields_of header_of read_checks read_of aim_of origin_of subnet_broadcast broadcast_in class_broadcast own_broadcast survey_below named_below target_of local_of route_line plain_line line_of granted_of copies_of ruling_of ruled_by rule_target rule_of call_checks flood_of remembering header_ending header_memory ending_of memory_of heard_ending heard_memory received_relay entered_all entered_if put_of take_of insert_by take_outcome taken_relay matched candidate beaten better_of search_from search_of rewrites next_length
opened = tt

-- Each call of the table has the answer beside it, after the history before it, whichever mission it is of.
pub marked_cases_lem : (m : ℕ) → m < 2 → Each (λ (x : Marked). (outcome (seat_after m x.calls) x.asked).answer ≡ x.answer) (marked_cases m)
unfolding opened
marked_cases_lem zero h = (refl, (refl, (refl, (refl, (refl, (refl, (refl, (refl, (refl, (refl, (refl, (refl, (refl, (refl, (refl, tt)))))))))))))))
marked_cases_lem (suc zero) h = (refl, (refl, (refl, (refl, (refl, (refl, (refl, (refl, (refl, (refl, (refl, (refl, (refl, (refl, (refl, tt)))))))))))))))
marked_cases_lem (suc (suc m)) h = absurd (omega arith)
