-- The seven functions that are lent a list of routes. What the contract of each promises is one clause, which is named here; that the clauses in the
-- source (crates harpjuniper_routes, _receive, _batch and _echo, src/) say this and no more, in whatever world the code runs, is proved by computing
-- (proofs/Given.antt). Assumes nothing.
use seplogic.Ra.Ura.{Ura}
use base.Logic.{emp}
use contract.Lifetimes.{Lfts}
use contract.Monad.{fact}
use denote.Triple.Entry.{Args, Res}
use denote.Triple.Clauses.{Ended, AtExit, Clauses}
use Rattle.harpjuniper_routes.specs.Face.{Searches, SetsRoute, ClearsRoute, ReadsRouteWord}
use Rattle.harpjuniper_receive.specs.Face.{Receives}
use Rattle.batch.specs.Items.{Lists}
use Rattle.harpjuniper_batch.specs.Face.{ReceivesMany}
use Rattle.harpjuniper_echo.specs.Face.{AnswersEcho}
use Rattle.harpjuniper_routes.specs.contracts.hj_set_route as set-route
use Rattle.harpjuniper_routes.specs.contracts.hj_clear_route as clear-route
use Rattle.harpjuniper_routes.specs.contracts.hj_route_word as route-word
use Rattle.harpjuniper_routes.specs.contracts.hj_search as search-route
use Rattle.harpjuniper_receive.specs.contracts.hj_receive_at as receive-at
use Rattle.harpjuniper_batch.specs.contracts.hj_receive_many as many
use Rattle.harpjuniper_echo.specs.contracts.hj_echo as echo

-- what a contract says of the arguments, the result, and the arguments at exit
abbrev pub Plainly : Ended → Type 1
Plainly T = (κs : Lfts T.signature.lifetimes) → Args T.signature κs → Res T.signature κs → AtExit T κs → Type 0

-- the contract that requires nothing and ensures this
abbrev pub plainly : {M : Type 1} (𝓤 : Ura M) (T : Ended) → Plainly T → Clauses 𝓤 T
plainly 𝓤 T P κs a = record { ghost = Unit {0}; requires = λ g. emp 𝓤; ensures = λ g r e. fact 𝓤 (P κs a r e) }

-- ---- the seven: a is the arguments, r the answer, e the arguments at exit
abbrev pub searches : Plainly search-route.ended
searches κs a r e = Searches a.0.now a.1.0.now a.1.1.0.now a.1.1.1.0 r

abbrev pub sets_route : Plainly set-route.ended
sets_route κs a r e =
    SetsRoute a.0.now a.1.0.now a.1.1.0 a.1.1.1.0 a.1.1.1.1.0 a.1.1.1.1.1.0 a.1.1.1.1.1.1.0
    a.1.1.1.1.1.1.1.0 a.1.1.1.1.1.1.1.1.0 r e.1.0.now

abbrev pub clears_route : Plainly clear-route.ended
clears_route κs a r e = ClearsRoute a.0.now a.1.0 r e.0.now

abbrev pub reads_word : Plainly route-word.ended
reads_word κs a r e = ReadsRouteWord a.0.now a.1.0 a.1.1.0 r

abbrev pub receives : Plainly receive-at.ended
receives κs a r e =
    Receives a.0.now a.1.0.now a.1.1.0.now a.1.1.1.0 a.1.1.1.1.0 a.1.1.1.1.1.0 a.1.1.1.1.1.1.0.now
    a.1.1.1.1.1.1.1.0.now r e.1.0.now e.1.1.1.1.1.1.1.0.now

abbrev pub receives_many : Plainly many.ended
receives_many κs a r e =
    let x : Lists =
    record {
      lengths = a.1.1.1.0.now;
      ports = a.1.1.1.1.0.now;
      slots = a.1.1.1.1.1.0.now;
      seconds = a.1.1.1.1.1.1.0.now;
      octets = a.1.1.1.1.1.1.1.0.now;
    } in
    ReceivesMany a.0.now a.1.0.now a.1.1.0.now x a.1.1.1.1.1.1.1.1.0.now a.1.1.1.1.1.1.1.1.1.0.now r
    e.1.0.now e.1.1.1.1.1.1.1.1.0.now e.1.1.1.1.1.1.1.1.1.0.now

abbrev pub echoes : Plainly echo.ended
echoes κs a r e =
    AnswersEcho a.0.now a.1.0.now a.1.1.0.now a.1.1.1.0 a.1.1.1.1.0 a.1.1.1.1.1.0.now
    a.1.1.1.1.1.1.0.now r e.1.0.now e.1.1.1.1.1.1.0.now
