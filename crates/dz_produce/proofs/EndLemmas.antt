-- How a run of `produce` ends: with Done at the end of its input alone.
use Rattle.std.specs.Bool.{⊤}
use Rattle.std.proofs.Common.{◌≡◌, ◌≢◌, ◌+◌, ℕ, Bool, true, false, cond, nat_lt, List, [], ◌∷◌, length, Option, Some}
use Rattle.std.proofs.Common.{None, IsSome, Result, Ok, Err, refl}
use Rattle.dz_script.specs.Lines.{lines_of, content}
use Rattle.dz_script.specs.Script.{Turn, goes_on, ends, Said, Rules, behind}
use Rattle.dz_script.specs.Run.{Place, beginning, Step, further, over, after_turn, step_at, said_from, said_of}
use Rattle.dz_script.specs.Run.{place_after, GoesToTheEnd}
use Rattle.dz_script.specs.Answers.{IsRun}
use Rattle.dz_script.specs.declared.lines.TheConstants.{LIMIT}
use Rattle.dz_script.specs.declared.run.ScriptError.{ScriptError}
use Rattle.dz_name.specs.Words.{Octets}
use Rattle.dz_script.specs.Line.{is_skipped}
use Rattle.dz_produce.specs.Lines.{line_of}
use Rattle.dz_produce.specs.Producing.{State, Making, is_faulty, begun, may_drop, with_member, without, changed}
use Rattle.dz_produce.specs.Producing.{text_of, unless_faulty, first_turn, next_turn, form_turn, line_turn}
use Rattle.dz_produce.specs.Producing.{produce_turn, produce_rules}
use Rattle.dz_produce.specs.declared.line.Line.{Line}
use Rattle.dz_produce.specs.declared.line.Line.TheVariants.{Catalog, Member, Drop, Change}
use Rattle.dz_produce.specs.declared.saying.ProduceEnd.{ProduceEnd}
use Rattle.dz_produce.specs.declared.saying.ProduceEnd.TheVariants as produce_ends

-- ---- a script that only the end of its input ends so
abbrev pub IsTurnOther : {S E : Type 0} → E → Turn S E → Type 0
IsTurnOther done (goes_on text state) = ⊤
IsTurnOther done (ends text state ending) = ending ≢ done

pub record EndsSoLast {S E : Type 0} (done : E) (rules : Rules S E) : Type 0 where
  pub turn : (state : S) (number : ℕ) (line : Octets) → IsTurnOther done (rules.turn state number line)
  pub long : (state : S) (number : ℕ) → (rules.too_long state number).ending ≢ done

-- the same of a step
abbrev IsStepOther : {S E : Type 0} → E → Step S E → Type 0
IsStepOther done (further place) = ⊤
IsStepOther done (over said) = said.ending ≢ done

pub either : {A : Type 0} (P : A → Type 0) (b : Bool) (x y : A) → P x → P y → P (cond b x y)
either P true x y one two = one
either P false x y one two = two

after_other : {S E : Type 0} (done : E) (place : Place S) (octets : ℕ) (turn : Turn S E) → IsTurnOther done turn
    → IsStepOther done (after_turn place octets turn)
unfolding after_turn
after_other done place octets (goes_on text state) before = tt
after_other done place octets (ends text state ending) before = before

step_other : {S E : Type 0} (done : E) (rules : Rules S E) → EndsSoLast done rules → (place : Place S) (line : Octets)
    → IsStepOther done (step_at rules place line)
unfolding step_at behind
step_other done rules before place line = either (IsStepOther done) (nat_lt LIMIT (place.used + length line)) _ _
    (before.long place.state place.number) (after_other done place (length line)
    (rules.turn place.state place.number (content line)) (before.turn place.state place.number (content line)))

at_step : {S E : Type 0} (done : E) (rules : Rules S E) (lines : List Octets)
    → ((place : Place S) → (said_from rules place lines).ending ≡ done → IsSome (place_after rules place lines))
    → (step : Step S E) → IsStepOther done step
    → (elim step as (λ _. Said S E) [ further next ↦ said_from rules next lines | over said ↦ said ]).ending ≡ done
    → IsSome (elim step as (λ _. Option (Place S)) [ further next ↦ place_after rules next lines | over said ↦ None ])
at_step done rules lines rest (further place) before is = rest place is
at_step done rules lines rest (over said) before is = absurd (before is)

done_from : {S E : Type 0} (done : E) (rules : Rules S E) → EndsSoLast done rules
    → (lines : List Octets) (place : Place S) → (said_from rules place lines).ending ≡ done
    → IsSome (place_after rules place lines)
unfolding said_from place_after
done_from done rules before [] place is = refl
done_from done rules before (line ∷ lines) place is = at_step done rules lines (done_from done rules before lines)
    (step_at rules place line) (step_other done rules before place line) is

pub done_goes : {S E : Type 0} (done : E) (rules : Rules S E) → EndsSoLast done rules → (start : S) (input : Octets)
    → (said_of rules start input).ending ≡ done → GoesToTheEnd rules start input
unfolding said_of
done_goes done rules before start input is = done_from done rules before (lines_of input) (beginning start) is

unless_other : (state : State) (number : ℕ) (text : Octets) (next : Making)
    → IsTurnOther produce_ends.Done (unless_faulty state number text next)
unless_other state number text next = either (IsTurnOther produce_ends.Done) (is_faulty next) _ _ (λ is. cc) tt

first_other : (number : ℕ) (line : Line) → IsTurnOther produce_ends.Done (first_turn number line)
unfolding first_turn
first_other number (Catalog apex serial) = unless_other None number [] (begun apex serial)
first_other number (Member node) = λ is. cc
first_other number (Drop label) = λ is. cc
first_other number (Change serial) = λ is. cc

next_other : (m : Making) (number : ℕ) (line : Line) → IsTurnOther produce_ends.Done (next_turn m number line)
unfolding next_turn
next_other m number (Catalog apex serial) = λ is. cc
next_other m number (Member node) = unless_other (Some m) number [] (with_member m node)
next_other m number (Drop label) = either (IsTurnOther produce_ends.Done) (may_drop m) _ _
    (unless_other (Some m) number [] (without m label)) (λ is. cc)
next_other m number (Change serial) = unless_other (Some m) number (text_of m) (changed m serial)

form_other : (state : State) (number : ℕ) (line : Line) → IsTurnOther produce_ends.Done (form_turn state number line)
form_other None number line = first_other number line
form_other (Some m) number line = next_other m number line

line_other : (state : State) (number : ℕ) (line : Option Line)
    → IsTurnOther produce_ends.Done (line_turn state number line)
line_other state number None = λ is. cc
line_other state number (Some line) = form_other state number line

turn_other : (state : State) (number : ℕ) (line : Octets)
    → IsTurnOther produce_ends.Done (produce_turn state number line)
unfolding produce_turn
turn_other state number line =
    either (IsTurnOther produce_ends.Done) (is_skipped line) _ _ tt (line_other state number (line_of line))

produce_last : EndsSoLast produce_ends.Done produce_rules
produce_last = record { turn = turn_other; long = λ state number is. cc }

pub done_leaves : (input : Octets) (result : Result ProduceEnd ScriptError) (state : State)
    (left before after : Option Octets) → IsRun produce_rules None input result state left before after
    → result ≡ Ok produce_ends.Done → left ≡ Some []
done_leaves input (Ok produce_ends.Done) state left before after run is =
    run.1 (done_goes produce_ends.Done produce_rules produce_last None input run.0.0)
done_leaves input (Ok produce_ends.BadInput) state left before after run is = cc
done_leaves input (Err error) state left before after run is = cc
