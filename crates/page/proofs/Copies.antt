-- With ports wanted: what receiving strikes out, grants, takes and drops is what the table does. Assumes nothing.
use native.Mathlib.Omega.{arith}
use Prim.Native.Nat.{ℕ, ◌<◌}
use mathlib.Core.Path.{◌≡◌, refl, sym, ap, ap₂, subst, ◌∙◌}
use mathlib.Core.Logic.{◌≢◌}
use mathlib.Core.Bool.{Bool, true, false, not, ◌&&◌, ◌||◌, and-true, not-not}
use mathlib.Core.List.{[], ◌∷◌}
use lib.Bits.{bit_and, and_le_r}
use lib.Dec.{eqb, ltb}
use Rattle.std.specs.Prelude.{Option, Some, None}
use Rattle.checks.specs.Order.{pick, first_of}
use Rattle.checks.proofs.Bools.{true_false, refuted}
use Rattle.sets.specs.Sets.{in_set, only_port}
use Rattle.sets.proofs.Anywhere.{any_found}
use Rattle.header.specs.Limits.{length_limit}
use Rattle.header.specs.declared.Addresses.{Addresses}
use Rattle.header.specs.declared.Addresses.TheVariants.{BasicPath, ExtendedPath, BasicEndSystem, ExtendedEndSystem, Ipv6}
use Rattle.header.specs.declared.Header.{Header}
use Rattle.meaning.specs.Names.{is_bound}
use Rattle.meaning.specs.Asked.{spent_of}
use Rattle.meaning.specs.declared.Aim.{Aim}
use Rattle.state.specs.Relay.{Relay, port_in, port_set_up}
use Rattle.next_leg.specs.Leg.{next_length}
use Rattle.survey.specs.Survey.{in_domain, fits_port, is_fitting, survey_of}
use Rattle.survey.specs.declared.Sought.{Sought}
use Rattle.verdict.specs.Numbers.{local_number, obstacle_number, onward_number}
use Rattle.verdict.specs.Rule.{except_by, same_domain, large_enough, after_domain, after_size, granted_of, copies_of, ruling_of}
use Rattle.verdict.specs.declared.Flood.{Flood}
use Rattle.verdict.specs.declared.Case.{Case}
use Rattle.verdict.specs.declared.Local.{Local}
use Rattle.verdict.specs.declared.Obstacle.{Obstacle}
use Rattle.verdict.specs.declared.Obstacle.TheVariants.{HopsUsedUp, LeavesDomain, TooBig, QueuesFull}
use Rattle.verdict.specs.declared.Onward.{Onward}
use Rattle.verdict.specs.declared.Onward.TheVariants as onward
use Rattle.verdict.specs.declared.Wish.{Wish}
use Rattle.verdict.specs.declared.Wish.TheVariants.{NotAsked, Refused, Wanted}
use Rattle.verdict.specs.declared.Survey.{Survey}
use Rattle.judge.specs.Ruling.{case_of, destination_asked, sought_of}
use Rattle.page.specs.Table.{Ports, some_port, Line, not_asked, refused, wanted, hops_used_up, one_octet_path, lies_far, size_after, has_room, with_room, without_room, of_domain, of_size, granted_ports, copy_rows, Verdict, line_number, line_grants, halves}
use Rattle.page.specs.Ends.{Agrees}
use Rattle.survey.proofs.Bits.{in_none, in_and, in_except}
use Rattle.page.proofs.Sets.{empty_is}
use Rattle.page.proofs.Local.{pick_zero}
use Rattle.page.proofs.Ports.{domain_in, fitting_in, domain_small, fitting_small, full_in}

-- of these ports no two are different
abbrev pub Alone : Ports → Type 0
Alone ports = (p q : ℕ) → p < 8 → q < 8 → ports p ≡ true → ports q ≡ true → p ≡ q

-- where a line wants ports, its route asks for what this code says; and a route has one port
abbrev pub Coded : ℕ → Line → Type 0
Coded code not_asked = Unit
Coded code (refused n) = Unit
Coded code (wanted ports c) = (code ≡ c) × (code ≢ 0 → Alone ports)

-- a line says what the table's line says, and its route asks for what the table's says
abbrev pub Same : ℕ → Wish → Line → Type 0
Same code NotAsked not_asked = Unit
Same code NotAsked (refused n) = ⊥
Same code NotAsked (wanted ports c) = ⊥
Same code (Refused o) not_asked = ⊥
Same code (Refused o) (refused n) = obstacle_number o ≡ n
Same code (Refused o) (wanted ports c) = ⊥
Same code (Wanted set) not_asked = ⊥
Same code (Wanted set) (refused n) = ⊥
Same code (Wanted set) (wanted ports c) = Coded code (wanted ports c) × ((p : ℕ) → p < 8 → in_set p set ≡ ports p)

-- without a route
pub no_route : (ports : Ports) → Coded 0 (wanted ports 0)
no_route ports = (refl, λ some. absurd (some refl))

pub same_coded : (code : ℕ) (w : Wish) (line : Line) → Same code w line → Coded code line
same_coded code w not_asked e = tt
same_coded code w (refused n) e = tt
same_coded code NotAsked (wanted ports c) e = absurd e
same_coded code (Refused o) (wanted ports c) e = absurd e
same_coded code (Wanted set) (wanted ports c) e = e.0

-- where no port is granted a copy, the numbers are left
pub empty_agrees : (local : Local) (onward : Onward) (v : Verdict) → local_number local ≡ v.local → onward_number onward ≡ v.onward
    → ((p : ℕ) → p < 8 → v.granted p ≡ false) → ((p : ℕ) → p < 8 → v.took p ≡ false) → ((p : ℕ) → p < 8 → v.dropped p ≡ false)
    → Agrees (record { local = local; onward = onward; granted = 0; took = 0; dropped = 0 }) v
empty_agrees local onward v here on granted took dropped = record {
  local = here;
  onward = on;
  granted = λ p l. in_none p ∙ sym (granted p l);
  took = λ p l. in_none p ∙ sym (took p l);
  dropped = λ p l. in_none p ∙ sym (dropped p l);
}

-- ---- the tests
spent_is : (n : Option ℕ) → eqb (spent_of n) 0 ≡ not (hops_used_up n)
spent_is None = refl
spent_is (Some n) = pick_zero (ltb n 2)

bound_is : (a : Addresses) → eqb (is_bound a) 0 ≡ not (one_octet_path a)
bound_is (BasicPath z) = refl
bound_is (ExtendedPath p) = refl
bound_is (BasicEndSystem d s) = refl
bound_is (ExtendedEndSystem d s) = refl
bound_is (Ipv6 d s) = refl

pub none_passes : (ports : Ports) → some_port ports ≡ false → (p : ℕ) → p < 8 → ports p ≡ false
unfolding some_port
none_passes ports e p l = refuted (ports p) (λ h. true_false (sym (any_found ports p 8 l h) ∙ e))

-- a port that is left is set up
taken_case : (d u m room : Bool) → ((d && (u && m)) && not (u && not room)) ≡ ((d && (u && m)) && room)
taken_case false u m room = refl
taken_case true false m room = refl
taken_case true true false room = refl
taken_case true true true true = refl
taken_case true true true false = refl

dropped_case : (d u m room : Bool) → ((d && (u && m)) && (u && not room)) ≡ ((d && (u && m)) && not room)
dropped_case false u m room = refl
dropped_case true false m room = refl
dropped_case true true m room = refl

-- the size for a port is that for its domain or that for another
size_case : (near : Bool) (arrival code : ℕ) (h : Header) → pick near (next_length false arrival code h) (next_length true arrival code h) ≡ next_length (not near) arrival code h
size_case true arrival code h = refl
size_case false arrival code h = refl

module _ (r : Relay) (at : ℕ) (x : Aim) (h : Header) (flood : Flood) (code : ℕ) (local : Local) where
  abbrev asked : Case
  asked = case_of r.router (only_port at) h.fields flood

  abbrev sought : Sought
  sought = sought_of (record { arrival = (port_in r at).address; code = code; header = h })

  abbrev found : Survey
  found = survey_of r (destination_asked x) sought

  -- what is asked of a port is what the table asks
  near_is : (p : ℕ) → in_domain (port_in r p) sought ≡ not (lies_far r at p)
  near_is p = sym (not-not _)

  fits_is : (p : ℕ) → is_fitting (port_in r p) sought ≡ (not (ltb (port_in r p).mtu (size_after r at h code p)) && ltb (size_after r at h code p) length_limit)
  fits_is p = ap (fits_port (port_in r p).mtu) (size_case (in_domain (port_in r p) sought) (port_in r at).address.0 code h)

  abbrev verdict : Line → Verdict
  verdict line = halves r at h (local_number local) line

  -- no copy on either side
  refused_agrees : (o : Obstacle) (line : Line) → obstacle_number o ≡ line_number r at h line
      → ((p : ℕ) → p < 8 → line_grants r at h line p ≡ false) → Agrees (ruling_of local (Refused o) found.full) (verdict line)
  unfolding ruling_of
  refused_agrees o line number nobody =
      empty_agrees local (onward.Refused o) (verdict line) refl number nobody (λ p l. rw (nobody p l)) (λ p l. rw (nobody p l))

  -- ---- ports wanted
  module _ (set : ℕ) (ports : Ports) (same : (p : ℕ) → p < 8 → in_set p set ≡ ports p) where
    abbrev domain : Ports
    domain = of_domain r at h ports code

    abbrev size : Ports
    size = of_size r at h ports code

    abbrev near : Ports
    near q = port_set_up r q && not (lies_far r at q)

    -- what is left once ports of other domains are struck out
    abbrev struck : ℕ
    struck = bit_and set found.domain

    struck_same : one_octet_path h.fields.addresses ≡ true → (p : ℕ) → p < 8 → in_set p struck ≡ domain p
    struck_same e p l =
        in_and p set found.domain ∙ ap₂ ◌&&◌ (same p l) (domain_in r x sought p l ∙ ap (λ (t : Bool). port_set_up r p && t) (near_is p))
        ∙ ap (λ (t : Bool). ports p && (not t || near p)) (sym e)

    all_same : one_octet_path h.fields.addresses ≡ false → (p : ℕ) → p < 8 → in_set p set ≡ domain p
    all_same e p l = same p l ∙ sym (and-true (ports p)) ∙ ap (λ (t : Bool). ports p && (not t || near p)) (sym e)

    struck_none : one_octet_path h.fields.addresses ≡ true → eqb struck 0 ≡ not (some_port domain)
    struck_none e =
        empty_is struck domain (omega (arith, and_le_r set found.domain, domain_small r x sought))
        (struck_same e)

    -- the number, by the five tests
    abbrev rows : Bool → Bool → Bool → Bool → Bool → ℕ
    rows s o d z t = first_of ((s, 10) ∷ (o && not d, 13) ∷ (not z, 14) ∷ (not t, 15) ∷ (true, 1) ∷ [])

    abbrev number : ℕ
    number = line_number r at h (wanted ports code)

    module _ (hops : hops_used_up h.fields.hops ≡ false) where
      -- no hop is missing: what is left is granted
      granted_is : (p : ℕ) → granted_ports r at h ports code p ≡ size p
      granted_is p = rw hops

      module _ (left : ℕ) (domain-is : (p : ℕ) → p < 8 → in_set p left ≡ domain p) where
        abbrev fits : ℕ
        fits = bit_and left found.fitting

        size_same : (p : ℕ) → p < 8 → in_set p fits ≡ size p
        size_same p l = in_and p left found.fitting ∙ ap₂ ◌&&◌ (domain-is p l) (fitting_in r x sought p l ∙ ap (λ (t : Bool). port_set_up r p && t) (fits_is p))

        fits_small : fits < 256
        fits_small = omega (arith, and_le_r left found.fitting, fitting_small r x sought)

        size_none : eqb fits 0 ≡ not (some_port size)
        size_none = empty_is fits size fits_small size_same

        -- a port of full queue drops its copy, any other takes it
        took_same : (p : ℕ) → p < 8 → in_set p (except_by fits found.full) ≡ with_room r (granted_ports r at h ports code) p
        took_same p l =
            in_except p fits found.full ∙ ap₂ (λ (s t : Bool). s && not t) (size_same p l) (full_in r x sought p l)
            ∙ taken_case (domain p) (port_set_up r p) _ (has_room r p)
            ∙ ap (λ (t : Bool). t && has_room r p) (sym (granted_is p))

        dropped_same : (p : ℕ) → p < 8 → in_set p (bit_and fits found.full) ≡ without_room r (granted_ports r at h ports code) p
        dropped_same p l =
            in_and p fits found.full ∙ ap₂ ◌&&◌ (size_same p l) (full_in r x sought p l)
            ∙ dropped_case (domain p) (port_set_up r p) _ (has_room r p)
            ∙ ap (λ (t : Bool). t && not (has_room r p)) (sym (granted_is p))

        took_none : eqb (except_by fits found.full) 0 ≡ not (some_port (with_room r (granted_ports r at h ports code)))
        took_none = empty_is _ _ (omega (arith, fits_small)) took_same

        abbrev agrees : Wish → Type 0
        agrees w = Agrees (ruling_of local w found.full) (verdict (wanted ports code))

        copies-agree : (t : Bool) → some_port (with_room r (granted_ports r at h ports code)) ≡ t → number ≡ rows false false true true t → agrees (Wanted fits)
        unfolding ruling_of copies_of first_of
        copies-agree t e n = record {
          local = refl;
          onward = ap (λ (u : Bool). onward_number (pick u (onward.Refused QueuesFull) onward.SentOn)) (took_none ∙ ap not e) ∙ last t ∙ sym n;
          granted = λ p l. size_same p l ∙ sym (granted_is p);
          took = took_same;
          dropped = dropped_same;
        }
          where
            last : (u : Bool) → onward_number (pick (not u) (onward.Refused QueuesFull) onward.SentOn) ≡ rows false false true true u
            last true = refl
            last false = refl

        fits-agrees : (z t : Bool) → some_port size ≡ z → some_port (with_room r (granted_ports r at h ports code)) ≡ t
            → number ≡ rows false false true z t → agrees (large_enough left found.fitting)
        unfolding first_of
        fits-agrees true t ez et n =
            subst (λ (u : Bool). agrees (pick u (Refused TooBig) (Wanted fits))) (sym (size_none ∙ ap not ez)) (copies-agree t et n)
        fits-agrees false t ez et n =
            subst (λ (u : Bool). agrees (pick u (Refused TooBig) (Wanted fits))) (sym (size_none ∙ ap not ez))
            (refused_agrees TooBig (wanted ports code) (sym n) (λ p l. granted_is p ∙ none_passes size ez p l))

    abbrev some_took : Bool
    some_took = some_port (with_room r (granted_ports r at h ports code))

    number_is : number ≡ rows (hops_used_up h.fields.hops) (one_octet_path h.fields.addresses) (some_port domain) (some_port size) some_took
    unfolding copy_rows
    number_is = refl

    -- ---- the stages, by whether hops are used up, the address is a one-octet path and a port of the domain is left
    abbrev in_time : Bool → Wish
    in_time s = pick (not s) (Wanted set) (Refused HopsUsedUp)

    abbrev at_home : Bool → Bool → Wish
    at_home o d = pick (not o) (Wanted set) (pick (not d) (Refused LeavesDomain) (Wanted struck))

    hops_stage : (s : Bool) → hops_used_up h.fields.hops ≡ s
        → granted_of (Wanted set) asked found ≡ after_size (after_domain (in_time s) asked.bound found.domain) found.fitting
    unfolding granted_of
    hops_stage s e =
        ap (λ (t : Bool). after_size (after_domain (pick t (Wanted set) (Refused HopsUsedUp)) asked.bound found.domain) found.fitting)
        (spent_is h.fields.hops ∙ ap not e)

    domain_stage : (o d : Bool) → one_octet_path h.fields.addresses ≡ o → (o ≡ true → eqb struck 0 ≡ not d)
        → same_domain set asked.bound found.domain ≡ at_home o d
    domain_stage true d e f =
        ap (λ (t : Bool). pick t (Wanted set) (pick (eqb struck 0) (Refused LeavesDomain) (Wanted struck))) (bound_is h.fields.addresses ∙ ap not e)
        ∙ ap (λ (t : Bool). pick t (Refused LeavesDomain) (Wanted struck)) (f refl)
    domain_stage false d e f =
        ap (λ (t : Bool). pick t (Wanted set) (pick (eqb struck 0) (Refused LeavesDomain) (Wanted struck))) (bound_is h.fields.addresses ∙ ap not e)

    abbrev AgreeAt : Wish → Type 0
    AgreeAt w = Agrees (ruling_of local w found.full) (verdict (wanted ports code))

    home_agrees : hops_used_up h.fields.hops ≡ false → (o d : Bool) → one_octet_path h.fields.addresses ≡ o → some_port domain ≡ d
        → number ≡ rows false o d (some_port size) some_took → AgreeAt (after_size (at_home o d) found.fitting)
    unfolding first_of
    home_agrees hops true true eo ed n = fits-agrees hops struck (struck_same eo) _ _ refl refl n
    home_agrees hops true false eo ed n =
        refused_agrees LeavesDomain (wanted ports code) (sym n)
        (λ p l. granted_is hops p ∙ rw (none_passes domain ed p l))
    home_agrees hops false d eo ed n = fits-agrees hops set (all_same eo) _ _ refl refl n

    hops_agrees : (s o d : Bool) → hops_used_up h.fields.hops ≡ s → one_octet_path h.fields.addresses ≡ o → some_port domain ≡ d
        → number ≡ rows s o d (some_port size) some_took → AgreeAt (granted_of (Wanted set) asked found)
    unfolding first_of
    hops_agrees true o d es eo ed n =
        subst AgreeAt (sym (hops_stage true es)) (refused_agrees HopsUsedUp (wanted ports code) (sym n) (λ p l. rw es))
    hops_agrees false o d es eo ed n =
        subst AgreeAt (sym (hops_stage false es ∙ ap (λ (w : Wish). after_size w found.fitting) (domain_stage o d eo (λ e. struck_none (eo ∙ e) ∙ ap not ed))))
        (home_agrees es o d eo ed n)

    wanted_agrees : AgreeAt (granted_of (Wanted set) asked found)
    wanted_agrees = hops_agrees _ _ _ refl refl refl number_is

  -- Lines that are the same end the same.
  pub line_agrees : (w : Wish) (line : Line) → Same code w line
      → Agrees (ruling_of local (granted_of w asked found) found.full) (verdict line)
  unfolding granted_of ruling_of
  line_agrees NotAsked not_asked e =
      empty_agrees local onward.NotAsked (verdict not_asked) refl refl (λ p l. refl) (λ p l. refl) (λ p l. refl)
  line_agrees NotAsked (refused n) e = absurd e
  line_agrees NotAsked (wanted ports c) e = absurd e
  line_agrees (Refused o) not_asked e = absurd e
  line_agrees (Refused o) (refused n) e = refused_agrees o (refused n) e (λ p l. refl)
  line_agrees (Refused o) (wanted ports c) e = absurd e
  line_agrees (Wanted set) not_asked e = absurd e
  line_agrees (Wanted set) (refused n) e = absurd e
  line_agrees (Wanted set) (wanted ports c) e =
      subst (λ (n : ℕ). Agrees (ruling_of local (granted_of (Wanted set) asked found) found.full) (verdict (wanted ports n))) e.0.0 (wanted_agrees set ports e.1)
