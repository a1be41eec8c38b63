-- A run of a script: what is known between two lines, and what each way on or out makes of it.
use Rattle.std.proofs.Common.{◌≡◌, ◌≤◌, ◌<◌, ◌+◌, ◌-◌, ℕ, List, [], ◌∷◌, ◌++◌, length, take, Option, Some, None}
use Rattle.std.proofs.Common.{IfSome, IsSome, Result, Ok, Err, MatchResult, refl, sym, ◌∙◌, ap, append_assoc}
use Rattle.std.proofs.Common.{length-append, arith}
use Rattle.std.proofs.lemmas.List.{append-nil, take-append-le}
use Rattle.std.proofs.Math.Seq.{take-append-add, take-append_seam}
use Rattle.dz_io.specs.Device.{Gives, Gains, GainsPrefix, IsAtEnd}
use Rattle.dz_script.specs.Lines.{lines_of, content, ahead, HasNoNewline, IsClosedLine, TakesLine, TakesLast}
use Rattle.dz_script.specs.Lines.{TakesNone, TakesTooMuch, StopsWithin}
use Rattle.dz_script.specs.Script.{Turn, goes_on, ends, Said, Rules, behind, turn_text, DoesTurn, Says, last_said}
use Rattle.dz_script.specs.Run.{beginning, place_after, said_of, IsPrefix, GoesToTheEnd}
use Rattle.dz_script.specs.Answers.{IsEnded, IsRun, error_of, run_of}
use Rattle.dz_script.specs.declared.script.TurnError.{TurnError}
use Rattle.dz_script.specs.declared.script.TurnError.TheVariants as turns
use Rattle.dz_script.specs.declared.run.ScriptError.TheVariants as errors
use Rattle.dz_script.specs.declared.lines.TheConstants.{LIMIT}
use Rattle.dz_script.proofs.SplitLemmas.{content-closed, content-open}
use Rattle.dz_script.proofs.ScriptLemmas.{Midway, midway_begins, midway_line, line_ends, last_ends, last_goes_on}
use Rattle.dz_script.proofs.ScriptLemmas.{input_ends, line_too_long, read_stops, midway_prefix, line_prefix_of}
use Rattle.dz_script.proofs.ScriptLemmas.{said_prefix_of, line_ends-before, line_too_long-before}

-- what was taken from Some rest leaves Some more
pub gives_some : (line rest : List ℕ) (before after : Option (List ℕ)) → before ≡ Some rest → Gives line before after
    → (more : List ℕ) × (after ≡ Some more) × (rest ≡ line ++ more)
gives_some line rest before None some moved = let none : before ≡ None = moved in cc
gives_some line rest before (Some more) some moved =
    (more, refl, (let same : before ≡ Some (line ++ more) = moved in cc))

-- two texts that were appended in turn are one
pub gains_more : (first second : List ℕ) (before middle after : Option (List ℕ)) → Gains first before middle
    → Gains second middle after → Gains (first ++ second) before after
gains_more first second None middle after one two = rw (two, one) refl
gains_more first second (Some held) middle after one two = rw (two, one) (ap Some (append_assoc held first second))

-- a text that was appended, and then a part of a second
pub gains_part : (first second : List ℕ) (before middle after : Option (List ℕ)) → Gains first before middle
    → GainsPrefix second middle after → (n : ℕ) × Gains (first ++ take n second) before after
gains_part first second before middle after one part =
    (part.0, gains_more first (take part.0 second) before middle after one part.2)

-- a part of a front is a part of the whole
pub part_of_front : (front text : List ℕ) (before after : Option (List ℕ)) → IsPrefix front text
    → GainsPrefix front before after → GainsPrefix text before after
part_of_front front text before after (more, is) (n, le, gained) =
    (n, rw is (omega (arith, length-append front more)), rw (is, take-append-le) gained)

-- the same as one part of both texts
prefix_behind : (first second : List ℕ) (before middle after : Option (List ℕ)) → Gains first before middle
    → GainsPrefix second middle after → GainsPrefix (first ++ second) before after
prefix_behind first second before middle after one (n, le, two) = (
  length first + n,
  rw length-append (omega arith),
  rw take-append-add (gains_more first (take n second) before middle after one two),
)

-- the text of a last line's turn is the beginning of what is said
last_front : {S E : Type 0} (rules : Rules S E) (number : ℕ) (turn : Turn S E) → IsPrefix (turn_text turn)
    (elim turn as (λ _. Said S E) [
      | goes_on text next ↦ behind text (rules.finish next (number + 1))
      | ends text last ending ↦ record { text = text; state = last; ending = ending }
    ]).text
unfolding behind
last_front rules number (goes_on text next) = ((rules.finish next (number + 1)).text, refl)
last_front rules number (ends text last ending) = ([], sym (append-nil text))

-- a last line whose turn stopped
pub last_halts : {S E : Type 0} (rules : Rules S E) (state : S) (number : ℕ) (line : List ℕ)
    (before after : Option (List ℕ)) → GainsPrefix (turn_text (rules.turn state number line)) before after
    → GainsPrefix (last_said rules state number line).text before after
unfolding last_said
last_halts rules state number line before after part =
    part_of_front _ _ before after (last_front rules number (rules.turn state number line)) part

pub last_said-ends : {S E : Type 0} (rules : Rules S E) (state last : S) (number : ℕ) (line text : List ℕ) (ending : E)
    → rules.turn state number line ≡ ends text last ending
    → last_said rules state number line ≡ record { text = text; state = last; ending = ending }
unfolding last_said
last_said-ends {S} {E} rules state last number line text ending turn =
    ap (λ t. elim t as (λ _. Said S E) [
      | goes_on first next ↦ behind first (rules.finish next (number + 1))
      | ends first last end ↦ record { text = first; state = last; ending = end }
    ]) turn

pub last_said-goes : {S E : Type 0} (rules : Rules S E) (state next : S) (number : ℕ) (line text : List ℕ)
    → rules.turn state number line ≡ goes_on text next
    → last_said rules state number line ≡ behind text (rules.finish next (number + 1))
unfolding last_said
last_said-goes {S} {E} rules state next number line text turn =
    ap (λ t. elim t as (λ _. Said S E) [
      | goes_on first after ↦ behind first (rules.finish after (number + 1))
      | ends first last end ↦ record { text = first; state = last; ending = end }
    ]) turn

-- a last line whose turn ended the script
pub last_over : {S E : Type 0} (rules : Rules S E) (state last : S) (number : ℕ) (line : List ℕ) (ending : E)
    (before after : Option (List ℕ)) → DoesTurn (rules.turn state number line) (Some ending) last before after
    → Says (last_said rules state number line) ending last before after
last_over rules state last number line ending before after (text, turn, gained) =
    rw (last_said-ends rules state last number line text ending turn) (refl, refl, gained)

-- a last line whose turn went on, and then the end of the input
pub last_finishes : {S E : Type 0} (rules : Rules S E) (state next last : S) (number : ℕ)
    (line : List ℕ) (before middle after : Option (List ℕ)) (result : Result E TurnError)
    → DoesTurn (rules.turn state number line) None next before middle
    → MatchResult result (λ ending. Says (rules.finish next (number + 1)) ending last middle after)
    (λ _. GainsPrefix (rules.finish next (number + 1)).text middle after)
    → MatchResult result (λ ending. Says (last_said rules state number line) ending last before after)
    (λ _. GainsPrefix (last_said rules state number line).text before after)
unfolding behind
last_finishes rules state next last number line before middle after (Ok ending) (text, turn, gained) said =
    rw (last_said-goes rules state next number line text turn)
    (said.0, said.1, gains_more text _ before middle after gained said.2)
last_finishes rules state next last number line before middle after (Err error) (text, turn, gained) part =
    rw (last_said-goes rules state next number line text turn) (prefix_behind text _ before middle after gained part)

-- between two lines, where the source tells what is left: what is ahead, and what was written after what was held
pub record Mid {S E : Type 0} (rules : Rules S E) (start : S) (input : List ℕ) (state : S) (number used : ℕ)
    (front before held : Option (List ℕ)) : Type 0 where
  pub rest : List ℕ
  pub written : List ℕ
  pub ahead_is : front ≡ Some rest
  pub held_is : Gains written before held
  pub midway : Midway rules start input state number used rest written

gains_none : (before : Option (List ℕ)) → Gains [] before before
gains_none None = refl
gains_none (Some held) = ap Some (sym (append-nil held))

-- before the first line
pub mid_begins : {S E : Type 0} (rules : Rules S E) (start : S) (input : List ℕ) (left before : Option (List ℕ))
    → left ≡ Some input → Mid rules start input start 1 0 (ahead [] left) before before
mid_begins rules start input left before told = record {
  rest = input;
  written = [];
  ahead_is = rw told refl;
  held_is = gains_none before;
  midway = midway_begins rules start input;
}

-- a closed line without its last octet
pub cut_is : (line : List ℕ) → IsClosedLine line → take (length line - 1) line ≡ content line
cut_is line closed =
    let size : length line - 1 ≡ length closed.front =
    omega (arith, ap length closed.line_is, length-append closed.front (10 ∷ [])) in
    rw (size, closed.line_is, content-closed closed.front closed.unbroken, take-append_seam) refl

-- a line went on
pub mid_line_on : {S E : Type 0} (rules : Rules S E) (start : S) (input : List ℕ) (state next : S)
    (number used : ℕ) (line : List ℕ) (front after before held now : Option (List ℕ))
    → Mid rules start input state number used front before held → TakesLine used line front after
    → DoesTurn (rules.turn state number (take (length line - 1) line)) None next held now
    → Mid rules start input next (number + 1) (used + length line) after before now
mid_line_on rules start input state next number used line front after before held now mid took (said, turn, gained) =
    let split = gives_some line mid.rest front after mid.ahead_is took.moved in
    record {
      rest = split.0;
      written = mid.written ++ said;
      ahead_is = split.1;
      held_is = gains_more mid.written said before held now mid.held_is gained;
      midway = midway_line rules start input state next number used mid.rest mid.written line split.0 said mid.midway
          took.closed split.2 took.fits (rw (cut_is line took.closed) at turn);
    }

-- nothing follows none
no_place : {A B : Type 0} (o : Option A) → o ≡ None → IsSome o → B
no_place None is some = cc
no_place (Some a) is some = let e : Some a ≡ None = is in cc

-- a line ended the script
pub mid_line_over : {S E : Type 0} (rules : Rules S E) (start : S) (input : List ℕ) (state last : S)
    (number used : ℕ) (line : List ℕ) (ending : E) (left front after before held now : Option (List ℕ))
    → Mid rules start input state number used front before held → TakesLine used line front after
    → DoesTurn (rules.turn state number (take (length line - 1) line)) (Some ending) last held now
    → IsEnded rules start input ending last left before now
mid_line_over rules start input state last number used line ending left front after before held now mid took
    (said, turn, gained) =
    let split = gives_some line mid.rest front after mid.ahead_is took.moved in
    let own : rules.turn state number (content line) ≡ ends said last ending =
    rw (cut_is line took.closed) at turn in (
      rw (line_ends rules start input state number used mid.rest mid.written line
          split.0 said last ending mid.midway took.closed split.2 took.fits own)
          (refl, refl, gains_more mid.written said before held now mid.held_is gained),
      no_place _ (line_ends-before rules start input state number used mid.rest mid.written line split.0 said last
          ending mid.midway took.closed split.2 took.fits own),
    )

-- a front of the script's text was written, and the run stopped
stopped : {S E : Type 0} (rules : Rules S E) (start : S) (input : List ℕ)
    (error : TurnError) (written : List ℕ) (state : S) (left before after : Option (List ℕ))
    → Gains written before after → IsPrefix written (said_of rules start input).text
    → IsRun rules start input (Err (error_of error)) state left before after
stopped rules start input turns.Write written state left before after gained part = (written, gained, part)
stopped rules start input turns.OutOfMemory written state left before after gained part = (written, gained, part)

-- a line's turn stopped
pub mid_line_halts : {S E : Type 0} (rules : Rules S E) (start : S) (input : List ℕ) (state last : S)
    (number used : ℕ) (line : List ℕ) (error : TurnError) (left front after before held now : Option (List ℕ))
    → Mid rules start input state number used front before held → TakesLine used line front after
    → GainsPrefix (turn_text (rules.turn state number (take (length line - 1) line))) held now
    → IsRun rules start input (Err (error_of error)) last left before now
mid_line_halts rules start input state last number used line error left front after before held now mid took part =
    let split = gives_some line mid.rest front after mid.ahead_is took.moved in
    let own : GainsPrefix (turn_text (rules.turn state number (content line))) held now =
    rw (cut_is line took.closed) at part in
    let gained =
    gains_part mid.written (turn_text (rules.turn state number (content line))) before held now mid.held_is own in
    stopped rules start input error _ last left before now gained.1 (line_prefix_of rules start input state number used
    mid.rest mid.written line split.0 gained.0 mid.midway took.closed split.2 took.fits)

nothing_after : (after : Option (List ℕ)) (more : List ℕ) → after ≡ Some more → IsAtEnd after → more ≡ []
nothing_after after more is end = rw is at end

empty_rest : (line rest more : List ℕ) → rest ≡ line ++ more → line ≡ [] → more ≡ [] → rest ≡ []
empty_rest line rest more split one two = rw (split, one, two) refl

-- the text after what was written midway: at the end of the input, past the limit, and with a last line
pub mid_end : {S E : Type 0} (rules : Rules S E) (start : S) (input : List ℕ) (state : S)
    (number used : ℕ) (line : List ℕ) (front after before held : Option (List ℕ))
    (mid : Mid rules start input state number used front before held) → TakesNone line front after
    → said_of rules start input ≡ behind mid.written (rules.finish state number)
mid_end rules start input state number used line front after before held mid took =
    let split = gives_some line mid.rest front after mid.ahead_is took.moved in
    input_ends rules start input state number used mid.rest mid.written mid.midway
    (empty_rest line mid.rest split.0 split.2 took.empty (nothing_after after split.0 split.1 took.end))

more_than : (after : Option (List ℕ)) (more : List ℕ) → after ≡ Some more → IfSome after (λ rest. 0 < length rest)
    → 0 < length more
more_than after more is some = rw is at some

pub mid_long : {S E : Type 0} (rules : Rules S E) (start : S) (input : List ℕ) (state : S)
    (number used : ℕ) (line : List ℕ) (front after before held : Option (List ℕ))
    (mid : Mid rules start input state number used front before held) → TakesTooMuch used line front after
    → said_of rules start input ≡ behind mid.written (rules.too_long state number)
mid_long rules start input state number used line front after before held mid took =
    let split = gives_some line mid.rest front after mid.ahead_is took.moved in
    line_too_long rules start input state number used mid.rest mid.written line split.0 mid.midway took.unbroken
    split.2 took.full (more_than after split.0 split.1 took.more)

-- a line past the limit ends the script
long_before : {S E : Type 0} (rules : Rules S E) (start : S) (input : List ℕ) (state : S)
    (number used : ℕ) (line : List ℕ) (front after before held : Option (List ℕ))
    → Mid rules start input state number used front before held → TakesTooMuch used line front after
    → place_after rules (beginning start) (lines_of input) ≡ None
long_before rules start input state number used line front after before held mid took =
    let split = gives_some line mid.rest front after mid.ahead_is took.moved in
    line_too_long-before rules start input state number used mid.rest mid.written line split.0 mid.midway took.unbroken
    split.2 took.full (more_than after split.0 split.1 took.more)

last_of : {S E : Type 0} (rules : Rules S E) (start : S) (input : List ℕ) (state : S) (number used : ℕ)
    (rest written line : List ℕ) → Midway rules start input state number used rest written → HasNoNewline line → 0
    < length line → rest ≡ line → used + length line ≤ LIMIT → (turn : Turn S E) → rules.turn state number line ≡ turn
    → said_of rules start input ≡ behind written (last_said rules state number line)
unfolding behind
last_of rules start input state number used rest written line midway unbroken some is fits (goes_on text next) turn =
    rw (last_said-goes rules state next number line text turn)
    (last_goes_on rules start input state next number used rest written line text midway unbroken some is fits
    (rw (content-open line unbroken) turn) ∙ ap (λ whole. record (rules.finish next (number + 1)) { text = whole })
    (append_assoc written text (rules.finish next (number + 1)).text))
last_of rules start input state number used rest written line midway unbroken some is fits
    (ends text last ending) turn =
    rw (last_said-ends rules state last number line text ending turn) (last_ends rules start input state number used
    rest written line text last ending midway unbroken some is fits (rw (content-open line unbroken) turn))

pub mid_last : {S E : Type 0} (rules : Rules S E) (start : S) (input : List ℕ) (state : S)
    (number used : ℕ) (line : List ℕ) (front after before held : Option (List ℕ))
    (mid : Mid rules start input state number used front before held) → TakesLast used line front after
    → said_of rules start input ≡ behind mid.written (last_said rules state number line)
mid_last rules start input state number used line front after before held mid took =
    let split = gives_some line mid.rest front after mid.ahead_is took.moved in
    last_of rules start input state number used mid.rest mid.written line mid.midway took.unbroken took.some
    (split.2 ∙ (ap (λ more. line ++ more) (nothing_after after split.0 split.1 took.end) ∙ append-nil line))
    took.fits (rules.turn state number line) refl

-- the text after it was written
said_done : {S E : Type 0} (rules : Rules S E) (start : S) (input written : List ℕ)
    (said : Said S E) (ending : E) (last : S) (before held now : Option (List ℕ))
    → said_of rules start input ≡ behind written said → Gains written before held → Says said ending last held now
    → Says (said_of rules start input) ending last before now
unfolding behind
said_done rules start input written said ending last before held now same gained says =
    rw same (says.0, says.1, gains_more written said.text before held now gained says.2)

-- a part of the text after it was written
said_halts : {S E : Type 0} (rules : Rules S E) (start : S) (input written : List ℕ)
    (said : Said S E) (error : TurnError) (last : S) (left before held now : Option (List ℕ))
    → said_of rules start input ≡ behind written said → Gains written before held → GainsPrefix said.text held now
    → IsRun rules start input (Err (error_of error)) last left before now
said_halts rules start input written said error last left before held now same gained part =
    let both = gains_part written said.text before held now gained part in
    stopped rules start input error _ last left before now both.1
    (said_prefix_of rules start input written said both.0 same)

-- a step that ends or stops, as the run's answer
pub said_run : {S E : Type 0} (rules : Rules S E) (start : S) (input written : List ℕ) (said : Said S E)
    (last : S) (left before held now : Option (List ℕ)) (result : Result E TurnError) → said_of rules start input
    ≡ behind written said → Gains written before held → (GoesToTheEnd rules start input → left ≡ Some [])
    → MatchResult result (λ ending. Says said ending last held now) (λ _. GainsPrefix said.text held now)
    → IsRun rules start input (run_of result) last left before now
said_run rules start input written said last left before held now (Ok ending) same gained through done =
    (said_done rules start input written said ending last before held now same gained done, through)
said_run rules start input written said last left before held now (Err error) same gained through done =
    said_halts rules start input written said error last left before held now same gained done

-- a read failed
pub mid_read : {S E : Type 0} (rules : Rules S E) (start : S) (input : List ℕ) (state : S)
    (number used : ℕ) (line window : List ℕ) (left front before held : Option (List ℕ))
    → Mid rules start input state number used front before held → StopsWithin used line front (ahead window left)
    → window ≡ [] → IsRun rules start input (Err errors.Read) state left before held
mid_read rules start input state number used line window left front before held mid took empty =
    let split = gives_some line mid.rest front (ahead window left) mid.ahead_is took.moved in (
      split.0,
      mid.written,
      told window left split.0 empty split.1,
      mid.held_is,
      read_stops rules start input state
          number used mid.rest mid.written line split.0 mid.midway took.unbroken split.2,
    )
  where
    told : (window : List ℕ) (left : Option (List ℕ)) (more : List ℕ) → window ≡ [] → ahead window left ≡ Some more
        → left ≡ Some more
    told window None more empty is = is
    told window (Some rest) more empty is = rw empty at is

-- memory was refused
pub mid_memory : {S E : Type 0} (rules : Rules S E) (start : S) (input : List ℕ) (state last : S) (number used : ℕ)
    (left front before held : Option (List ℕ)) → Mid rules start input state number used front before held
    → IsRun rules start input (Err errors.OutOfMemory) last left before held
mid_memory rules start input state last number used left front before held mid =
    (mid.written, mid.held_is, midway_prefix rules start input state number used mid.rest mid.written mid.midway)

-- a closed line has an octet
pub more_than_none : (line : List ℕ) → IsClosedLine line → 0 < length line
more_than_none line closed = omega (arith, ap length closed.line_is, length-append closed.front (10 ∷ []))

-- nothing is ahead of what was told, so nothing is left
left_none : (line rest window : List ℕ) (left front : Option (List ℕ)) → front ≡ Some rest
    → Gives line front (ahead window left) → IsAtEnd (ahead window left) → left ≡ Some []
left_none line rest window None front told moved end = let e : front ≡ None = moved in cc
left_none line rest [] (Some more) front told moved end = let e : more ≡ [] = end in ap Some e
left_none line rest (octet ∷ window) (Some more) front told moved end =
    let e : octet ∷ (window ++ more) ≡ [] = end in cc

-- the end of the input, a line past the limit, and a last line: what was written then makes the run's answer
pub run_end : {S E : Type 0} (rules : Rules S E) (start : S) (input : List ℕ) (state last : S) (number used : ℕ)
    (line window : List ℕ) (left front before held now : Option (List ℕ)) (result : Result E TurnError)
    → Mid rules start input state number used front before held → TakesNone line front (ahead window left)
    → MatchResult result (λ ending. Says (rules.finish state number) ending last held now)
    (λ _. GainsPrefix (rules.finish state number).text held now)
    → IsRun rules start input (run_of result) last left before now
run_end rules start input state last number used line window left front before held now result mid took done =
    said_run rules start input mid.written (rules.finish state number) last left before held now result
    (mid_end rules start input state number used line front (ahead window left) before held mid took) mid.held_is
    (λ _. left_none line mid.rest window left front mid.ahead_is took.moved took.end) done

pub run_long : {S E : Type 0} (rules : Rules S E) (start : S) (input : List ℕ) (state last : S) (number used : ℕ)
    (line : List ℕ) (left front after before held now : Option (List ℕ)) (result : Result E TurnError)
    → Mid rules start input state number used front before held → TakesTooMuch used line front after
    → MatchResult result (λ ending. Says (rules.too_long state number) ending last held now)
    (λ _. GainsPrefix (rules.too_long state number).text held now)
    → IsRun rules start input (run_of result) last left before now
run_long rules start input state last number used line left front after before held now result mid took done =
    said_run rules start input mid.written (rules.too_long state number) last left before held now result
    (mid_long rules start input state number used line front after before held mid took) mid.held_is
    (no_place _ (long_before rules start input state number used line front after before held mid took)) done

pub run_last : {S E : Type 0} (rules : Rules S E) (start : S) (input : List ℕ) (state last : S) (number used : ℕ)
    (line window : List ℕ) (left front before held now : Option (List ℕ)) (result : Result E TurnError)
    → Mid rules start input state number used front before held → TakesLast used line front (ahead window left)
    → MatchResult result (λ ending. Says (last_said rules state number line) ending last held now)
    (λ _. GainsPrefix (last_said rules state number line).text held now)
    → IsRun rules start input (run_of result) last left before now
run_last rules start input state last number used line window left front before held now result mid took done =
    said_run rules start input mid.written (last_said rules state number line) last left before held now result
    (mid_last rules start input state number used line front (ahead window left) before held mid took) mid.held_is
    (λ _. left_none line mid.rest window left front mid.ahead_is took.moved took.end) done
