-- A script, line by line: what is known midway, and what each way on or out makes of it.
use Rattle.std.proofs.Common.{◌≡◌, ◌≤◌, ◌<◌, ◌+◌, ℕ, Bool, true, false, nat_lt, List, [], ◌∷◌, ◌++◌, length, take}
use Rattle.std.proofs.Common.{drop, Option, Some, None, refl, sym, ◌∙◌, ap, append_assoc, length-append, arith}
use Rattle.std.proofs.lemmas.Bool.Decides.{nat_tests}
use Rattle.std.proofs.lemmas.List.{append-nil, take-append-drop}
use Rattle.std.specs.List.{AllByRecursion}
use Rattle.dz_script.specs.Lines.{lines_of, octets_of, content, HasNoNewline, IsClosedLine}
use Rattle.dz_script.specs.Script.{Turn, goes_on, ends, Said, Rules, behind, turn_text}
use Rattle.dz_script.specs.Run.{Place, beginning, Step, further, over, after_turn, step_at, said_from, said_of}
use Rattle.dz_script.specs.Run.{place_after, IsPrefix, StopsIn}
use Rattle.dz_script.specs.declared.lines.TheConstants.{LIMIT}
use Rattle.dz_script.proofs.SplitLemmas.{lines_of-newline, lines_of-last, Longer, lines_of-long, lines_of-octets_of}
use Rattle.dz_script.proofs.SplitLemmas.{joined-append, closed-append}

-- From the start on, the input's first lines all went on. They left this state, the next line's number, the octets
-- used, what is ahead of the input and what was written
pub record Midway {S E : Type 0} (rules : Rules S E) (start : S) (input : List ℕ) (state : S) (number used : ℕ)
    (rest written : List ℕ) : Type 0 where
  pub done : List (List ℕ)
  pub closed : AllByRecursion IsClosedLine done
  pub input_is : input ≡ octets_of done ++ rest
  pub place_is : place_after rules (beginning start) done
      ≡ Some (record { state = state; number = number; used = used; written = written })
  pub fits : used ≤ LIMIT
  pub counted : number ≤ used + 1

-- the place after lines that go on, and the lines that follow it
on_step : {S E : Type 0} (rules : Rules S E) (next : Place S) (done lines : List (List ℕ))
    → ((place : Place S) → place_after rules place done ≡ Some next
    → said_from rules place (done ++ lines) ≡ said_from rules next lines) → (step : Step S E)
    → (elim step as (λ _. Option (Place S)) [ further q ↦ place_after rules q done | over said ↦ None ]) ≡ Some next
    → (elim step as (λ _. Said S E) [ further q ↦ said_from rules q (done ++ lines) | over said ↦ said ])
    ≡ said_from rules next lines
on_step rules next done lines rest (further place) goes = rest place goes
on_step rules next done lines rest (over said) goes = cc

pub said_from-after : {S E : Type 0} (rules : Rules S E) (done lines : List (List ℕ)) (next place : Place S)
    → place_after rules place done ≡ Some next → said_from rules place (done ++ lines) ≡ said_from rules next lines
unfolding place_after said_from
said_from-after rules [] lines next place goes =
    let e : Some place ≡ Some next = goes in
    let same : place ≡ next = (cc) in
    ap (λ p. said_from rules p lines) same
said_from-after rules (line ∷ done) lines next place goes =
    on_step rules next done lines (said_from-after rules done lines next) (step_at rules place line) goes

after_step : {S E : Type 0} (rules : Rules S E) (next : Place S) (done lines : List (List ℕ))
    → ((place : Place S) → place_after rules place done ≡ Some next
    → place_after rules place (done ++ lines) ≡ place_after rules next lines) → (step : Step S E)
    → (elim step as (λ _. Option (Place S)) [ further q ↦ place_after rules q done | over said ↦ None ]) ≡ Some next
    → (elim step as (λ _. Option (Place S)) [ further q ↦ place_after rules q (done ++ lines) | over said ↦ None ])
    ≡ place_after rules next lines
after_step rules next done lines rest (further place) goes = rest place goes
after_step rules next done lines rest (over said) goes = cc

pub place_after-append : {S E : Type 0} (rules : Rules S E) (done lines : List (List ℕ)) (next place : Place S)
    → place_after rules place done ≡ Some next → place_after rules place (done ++ lines) ≡ place_after rules next lines
unfolding place_after
place_after-append rules [] lines next place goes =
    let e : Some place ≡ Some next = goes in
    let same : place ≡ next = (cc) in
    ap (λ p. place_after rules p lines) same
place_after-append rules (line ∷ done) lines next place goes =
    after_step rules next done lines (place_after-append rules done lines next) (step_at rules place line) goes

-- a step within the limit is the line's turn
step-fits : {S E : Type 0} (rules : Rules S E) (state : S) (number used : ℕ) (written line : List ℕ)
    → used + length line ≤ LIMIT
    → step_at rules (record { state = state; number = number; used = used; written = written }) line
    ≡ after_turn (record { state = state; number = number; used = used; written = written }) (length line)
    (rules.turn state number (content line))
unfolding step_at
step-fits rules state number used written line fits =
    let test : nat_lt LIMIT (used + length line) ≡ false = grind (arith, nat_tests) in rw test refl

-- a step past the limit ends the script
step-long : {S E : Type 0} (rules : Rules S E) (state : S) (number used : ℕ) (written line : List ℕ) → LIMIT < used
    + length line → step_at rules (record { state = state; number = number; used = used; written = written }) line
    ≡ over (behind written (rules.too_long state number))
unfolding step_at
step-long rules state number used written line more =
    let test : nat_lt LIMIT (used + length line) ≡ true = grind (arith, nat_tests) in rw test refl

-- the whole text, from where the script is
pub said_of-midway : {S E : Type 0} (rules : Rules S E) (start : S) (input : List ℕ) (state : S) (number used : ℕ)
    (rest written : List ℕ) → Midway rules start input state number used rest written → said_of rules start input
    ≡ said_from rules (record { state = state; number = number; used = used; written = written }) (lines_of rest)
unfolding said_of
said_of-midway rules start input state number used rest written so_far =
    rw (so_far.input_is, lines_of-octets_of so_far.done rest so_far.closed)
    (said_from-after rules so_far.done (lines_of rest) _ (beginning start) so_far.place_is)

-- before the first line
pub midway_begins : {S E : Type 0} (rules : Rules S E) (start : S) (input : List ℕ)
    → Midway rules start input start 1 0 input []
unfolding place_after beginning octets_of
midway_begins rules start input = record {
  done = [];
  closed = tt;
  input_is = refl;
  place_is = refl;
  fits = omega arith;
  counted = omega arith;
}

-- a step within the limit whose turn ends the script, or goes on
turn_ends : {S E : Type 0} (rules : Rules S E) (state : S) (number used : ℕ) (written text line : List ℕ) (last : S)
    (ending : E) → used + length line ≤ LIMIT → rules.turn state number (content line) ≡ ends text last ending
    → step_at rules (record { state = state; number = number; used = used; written = written }) line
    ≡ over (record { text = written ++ text; state = last; ending = ending })
unfolding after_turn
turn_ends rules state number used written text line last ending fits turn =
    rw (step-fits rules state number used written line fits, turn) refl

turn_goes : {S E : Type 0} (rules : Rules S E) (state next : S) (number used : ℕ) (written text line : List ℕ)
    → used + length line ≤ LIMIT → rules.turn state number (content line) ≡ goes_on text next
    → step_at rules (record { state = state; number = number; used = used; written = written }) line
    ≡ further (record { state = next; number = number + 1; used = used + length line; written = written ++ text })
unfolding after_turn
turn_goes rules state next number used written text line fits turn =
    rw (step-fits rules state number used written line fits, turn) refl

-- one line that goes on
one_further : {S E : Type 0} (rules : Rules S E) (state next : S) (number used : ℕ) (written text line : List ℕ)
    → used + length line ≤ LIMIT → rules.turn state number (content line) ≡ goes_on text next
    → place_after rules (record { state = state; number = number; used = used; written = written }) (line ∷ [])
    ≡ Some (record { state = next; number = number + 1; used = used + length line; written = written ++ text })
unfolding place_after
one_further {S} rules state next number used written text line fits turn =
    ap (λ step. elim step as (λ _. Option (Place S)) [ further q ↦ place_after rules q [] | over said ↦ None ])
    (turn_goes rules state next number used written text line fits turn)

-- a line goes on
pub midway_line : {S E : Type 0} (rules : Rules S E) (start : S) (input : List ℕ) (state next : S) (number used : ℕ)
    (rest written line more text : List ℕ) → Midway rules start input state number used rest written
    → IsClosedLine line → rest ≡ line ++ more → used + length line ≤ LIMIT → rules.turn state number (content line)
    ≡ goes_on text next → Midway rules start input next (number + 1) (used + length line) more (written ++ text)
midway_line rules start input state next number used rest written line more text so_far one split fits turn = record {
  done = so_far.done ++ line ∷ [];
  closed = closed-append so_far.done line so_far.closed one;
  input_is = rw (so_far.input_is, split, joined-append so_far.done line, append_assoc) refl;
  place_is = place_after-append rules so_far.done (line ∷ []) _ (beginning start) so_far.place_is
      ∙ one_further rules state next number used written text line fits turn;
  fits = fits;
  counted = omega (arith, so_far.counted, ap length one.line_is, length-append one.front (10 ∷ []));
}

-- the lines of a rest that begins with a line
closed_lines : (line more rest : List ℕ) → IsClosedLine line → rest ≡ line ++ more
    → lines_of rest ≡ line ∷ lines_of more
closed_lines line more rest one split =
    rw (split, one.line_is, append_assoc) (lines_of-newline one.front more one.unbroken)

-- a step that ends the script
over_at : {S E : Type 0} (rules : Rules S E) (place : Place S) (line : List ℕ) (lines : List (List ℕ))
    (said : Said S E) → step_at rules place line ≡ over said → said_from rules place (line ∷ lines) ≡ said
unfolding said_from
over_at {S} {E} rules place line lines said is =
    ap (λ step. elim step as (λ _. Said S E) [ further q ↦ said_from rules q lines | over ended ↦ ended ]) is

-- a step that goes on
further_at : {S E : Type 0} (rules : Rules S E) (place next : Place S) (line : List ℕ) (lines : List (List ℕ))
    → step_at rules place line ≡ further next → said_from rules place (line ∷ lines) ≡ said_from rules next lines
unfolding said_from
further_at {S} {E} rules place next line lines is =
    ap (λ step. elim step as (λ _. Said S E) [ further q ↦ said_from rules q lines | over ended ↦ ended ]) is

-- a line ends the script
pub line_ends : {S E : Type 0} (rules : Rules S E) (start : S) (input : List ℕ) (state : S)
    (number used : ℕ) (rest written line more text : List ℕ) (last : S) (ending : E)
    → Midway rules start input state number used rest written → IsClosedLine line → rest ≡ line ++ more
    → used + length line ≤ LIMIT → rules.turn state number (content line) ≡ ends text last ending
    → said_of rules start input ≡ record { text = written ++ text; state = last; ending = ending }
line_ends rules start input state number used rest written line more text last ending so_far one split fits turn =
    said_of-midway rules start input state number used rest written so_far
    ∙ (ap (said_from rules _) (closed_lines line more rest one split)
    ∙ over_at rules _ line (lines_of more) _
    (turn_ends rules state number used written text line last ending fits turn))

-- the only line of a rest without a newline
open_lines : (line rest : List ℕ) → HasNoNewline line → 0 < length line → rest ≡ line → lines_of rest ≡ line ∷ []
open_lines [] rest unbroken some is = absurd (omega arith)
open_lines (octet ∷ octets) rest unbroken some is = ap lines_of is ∙ lines_of-last octet octets unbroken

-- the last line, which has no newline, ends the script
pub last_ends : {S E : Type 0} (rules : Rules S E) (start : S) (input : List ℕ)
    (state : S) (number used : ℕ) (rest written line text : List ℕ) (last : S) (ending : E)
    → Midway rules start input state number used rest written → HasNoNewline line → 0 < length line
    → rest ≡ line → used + length line ≤ LIMIT → rules.turn state number (content line) ≡ ends text last ending
    → said_of rules start input ≡ record { text = written ++ text; state = last; ending = ending }
last_ends rules start input state number used rest written line text last ending so_far unbroken some is fits turn =
    said_of-midway rules start input state number used rest written so_far
    ∙ (ap (said_from rules _) (open_lines line rest unbroken some is)
    ∙ over_at rules _ line [] _ (turn_ends rules state number used written text line last ending fits turn))

at_end : {S E : Type 0} (rules : Rules S E) (state : S) (number used : ℕ) (written : List ℕ)
    → said_from rules (record { state = state; number = number; used = used; written = written }) []
    ≡ behind written (rules.finish state number)
unfolding said_from
at_end rules state number used written = refl

-- the last line goes on, and the end says the rest
pub last_goes_on : {S E : Type 0} (rules : Rules S E) (start : S) (input : List ℕ) (state next : S) (number used : ℕ)
    (rest written line text : List ℕ) → Midway rules start input state number used rest written → HasNoNewline line
    → 0 < length line → rest ≡ line → used + length line ≤ LIMIT → rules.turn state number (content line)
    ≡ goes_on text next → said_of rules start input ≡ behind (written ++ text) (rules.finish next (number + 1))
last_goes_on rules start input state next number used rest written line text so_far unbroken some is fits turn =
    said_of-midway rules start input state number used rest written so_far
    ∙ (ap (said_from rules _) (open_lines line rest unbroken some is)
    ∙ (further_at rules _ _ line [] (turn_goes rules state next number used written text line fits turn)
    ∙ at_end rules next (number + 1) (used + length line) (written ++ text)))

no_lines : (rest : List ℕ) → rest ≡ [] → lines_of rest ≡ []
unfolding lines_of
no_lines rest none = rw none refl

-- there is no further line, and the end says the rest
pub input_ends : {S E : Type 0} (rules : Rules S E) (start : S) (input : List ℕ) (state : S) (number used : ℕ)
    (rest written : List ℕ) → Midway rules start input state number used rest written → rest ≡ []
    → said_of rules start input ≡ behind written (rules.finish state number)
input_ends rules start input state number used rest written so_far none =
    said_of-midway rules start input state number used rest written so_far
    ∙ (ap (said_from rules _) (no_lines rest none)
    ∙ at_end rules state number used written)

-- a line holds an octet past the limit
pub line_too_long : {S E : Type 0} (rules : Rules S E) (start : S) (input : List ℕ) (state : S) (number used : ℕ)
    (rest written front more : List ℕ) → Midway rules start input state number used rest written
    → HasNoNewline front → rest ≡ front ++ more → used + length front ≡ LIMIT → 0 < length more
    → said_of rules start input ≡ behind written (rules.too_long state number)
line_too_long rules start input state number used rest written front more so_far unbroken split full some =
    let long : Longer (length front) (front ++ more) = lines_of-long front more unbroken some in
    said_of-midway rules start input state number used rest written so_far
    ∙ (ap (said_from rules _) (ap lines_of split ∙ long.lines_are)
    ∙ over_at rules _ long.line long.lines _
    (step-long rules state number used written long.line (omega (arith, long.longer))))

-- a read failed
pub read_stops : {S E : Type 0} (rules : Rules S E) (start : S) (input : List ℕ) (state : S) (number used : ℕ)
    (rest written part unread : List ℕ) → Midway rules start input state number used rest written → HasNoNewline part
    → rest ≡ part ++ unread → StopsIn rules start input unread state written
read_stops rules start input state number used rest written part unread so_far unbroken split = record {
  whole = so_far.done;
  part = part;
  closed = so_far.closed;
  unbroken = unbroken;
  input_is = so_far.input_is ∙ ap (λ behind_done. octets_of so_far.done ++ behind_done) split;
  place = record { state = state; number = number; used = used; written = written };
  place_is = so_far.place_is;
  written_is = refl;
  state_is = refl;
}

-- where the next line ends the script, no place follows it
stops_at : {S E : Type 0} (rules : Rules S E) (place : Place S) (line : List ℕ) (lines : List (List ℕ))
    (said : Said S E) → step_at rules place line ≡ over said → place_after rules place (line ∷ lines) ≡ None
unfolding place_after
stops_at {S} {E} rules place line lines said is =
    ap (λ step. elim step as (λ _. Option (Place S)) [ further q ↦ place_after rules q lines | over ended ↦ None ]) is

-- the place after all lines, from where the script is
place_after-midway : {S E : Type 0} (rules : Rules S E) (start : S) (input : List ℕ) (state : S)
    (number used : ℕ) (rest written : List ℕ) → Midway rules start input state number used rest written
    → place_after rules (beginning start) (lines_of input)
    ≡ place_after rules (record { state = state; number = number; used = used; written = written }) (lines_of rest)
place_after-midway rules start input state number used rest written so_far =
    rw (so_far.input_is, lines_of-octets_of so_far.done rest so_far.closed)
    (place_after-append rules so_far.done (lines_of rest) _ (beginning start) so_far.place_is)

-- a line ends the script, so there is no place after all lines
pub line_ends-before : {S E : Type 0} (rules : Rules S E) (start : S) (input : List ℕ)
    (state : S) (number used : ℕ) (rest written line more text : List ℕ) (last : S) (ending : E)
    → Midway rules start input state number used rest written → IsClosedLine line → rest ≡ line ++ more
    → used + length line ≤ LIMIT → rules.turn state number (content line) ≡ ends text last ending
    → place_after rules (beginning start) (lines_of input) ≡ None
line_ends-before rules start input state number used rest written line more text last ending so_far one
    split fits turn =
    place_after-midway rules start input state number used rest written so_far
    ∙ (ap (place_after rules _) (closed_lines line more rest one split)
    ∙ stops_at rules _ line (lines_of more) _
    (turn_ends rules state number used written text line last ending fits turn))

-- the same of a line that holds an octet past the limit
pub line_too_long-before : {S E : Type 0} (rules : Rules S E) (start : S) (input : List ℕ) (state : S)
    (number used : ℕ) (rest written front more : List ℕ) → Midway rules start input state number used rest written
    → HasNoNewline front → rest ≡ front ++ more → used + length front ≡ LIMIT → 0 < length more
    → place_after rules (beginning start) (lines_of input) ≡ None
line_too_long-before rules start input state number used rest written front more so_far unbroken split full some =
    let long : Longer (length front) (front ++ more) = lines_of-long front more unbroken some in
    place_after-midway rules start input state number used rest written so_far
    ∙ (ap (place_after rules _) (ap lines_of split ∙ long.lines_are)
    ∙ stops_at rules _ long.line long.lines _
    (step-long rules state number used written long.line (omega (arith, long.longer))))

-- a front of a front is a front
prefix-trans : (front middle text : List ℕ) → IsPrefix front middle → IsPrefix middle text → IsPrefix front text
prefix-trans front middle text first second =
    (first.0 ++ second.0, second.1 ∙ (ap (λ m. m ++ second.0) first.1 ∙ append_assoc front first.0 second.0))

-- with a part of what comes next, it is still a front
take_prefix : (n : ℕ) (front next text : List ℕ) → IsPrefix (front ++ next) text → IsPrefix (front ++ take n next) text
take_prefix n front next text whole =
    prefix-trans (front ++ take n next) (front ++ next) text (
      drop n next,
      ap (λ m. front ++ m) (sym (take-append-drop n next))
          ∙ sym (append_assoc front (take n next) (drop n next)),
    ) whole

-- what was written before a step stays the beginning of what is written
turn_prefix : {S E : Type 0} (rules : Rules S E) (place : Place S) (octets : ℕ) (lines : List (List ℕ))
    → ((next : Place S) → IsPrefix next.written (said_from rules next lines).text) → (turn : Turn S E)
    → IsPrefix (place.written ++ turn_text turn) (elim (after_turn place octets turn) as (λ _. Said S E)
    [ further q ↦ said_from rules q lines | over ended ↦ ended ]).text
unfolding after_turn
turn_prefix rules place octets lines rest (goes_on text state) = rest _
turn_prefix rules place octets lines rest (ends text last ending) = ([], sym (append-nil _))

-- the text of a line within the limit stays the beginning of what is written
line_prefix : {S E : Type 0} (rules : Rules S E) (place : Place S) (line : List ℕ) (lines : List (List ℕ))
    → ((next : Place S) → IsPrefix next.written (said_from rules next lines).text) → place.used + length line ≤ LIMIT
    → IsPrefix (place.written ++ turn_text (rules.turn place.state place.number (content line)))
    (said_from rules place (line ∷ lines)).text
unfolding said_from
line_prefix {S} {E} rules place line lines rest fits =
    let front =
    turn_prefix rules place (length line) lines rest (rules.turn place.state place.number (content line)) in (
      front.0,
      ap (λ step. (elim step as (λ _. Said S E) [ further q ↦ said_from rules q lines | over ended ↦ ended ]).text)
          (step-fits rules place.state place.number place.used place.written line fits) ∙ front.1,
    )

-- what was written before a line stays the beginning of what is written
step_prefix : {S E : Type 0} (rules : Rules S E) (place : Place S) (line : List ℕ) (lines : List (List ℕ))
    → ((next : Place S) → IsPrefix next.written (said_from rules next lines).text) → (b : Bool)
    → nat_lt LIMIT (place.used + length line) ≡ b → IsPrefix place.written (said_from rules place (line ∷ lines)).text
unfolding behind
step_prefix rules place line lines rest true is =
    let long : LIMIT < place.used + length line = grind (arith, nat_tests) in (
      (rules.too_long place.state place.number).text,
      ap (λ (s : Said _ _). s.text) (over_at rules place line lines _
          (step-long rules place.state place.number place.used place.written line long)),
    )
step_prefix rules place line lines rest false is =
    let fits : place.used + length line ≤ LIMIT = grind (arith, nat_tests) in
    prefix-trans place.written _ _ (turn_text (rules.turn place.state place.number (content line)), refl)
    (line_prefix rules place line lines rest fits)

-- what is written at a place stays the beginning of all that is written
pub said_from-prefix : {S E : Type 0} (rules : Rules S E) (lines : List (List ℕ)) (place : Place S)
    → IsPrefix place.written (said_from rules place lines).text
unfolding said_from behind
said_from-prefix rules [] place = ((rules.finish place.state place.number).text, refl)
said_from-prefix rules (line ∷ lines) place =
    step_prefix rules place line lines (said_from-prefix rules lines) (nat_lt LIMIT (place.used + length line)) refl

-- a front of what is written from here on is a front of the whole text
whole_prefix : {S E : Type 0} (rules : Rules S E) (start : S) (input : List ℕ) (said : Said S E) (front : List ℕ)
    → said_of rules start input ≡ said → IsPrefix front said.text → IsPrefix front (said_of rules start input).text
whole_prefix rules start input said front same part = (part.0, ap (λ (s : Said _ _). s.text) same ∙ part.1)

-- what was written midway is a front of the script's text
pub midway_prefix : {S E : Type 0} (rules : Rules S E) (start : S) (input : List ℕ) (state : S)
    (number used : ℕ) (rest written : List ℕ) → Midway rules start input state number used rest written
    → IsPrefix written (said_of rules start input).text
midway_prefix rules start input state number used rest written so_far =
    whole_prefix rules start input _ written (said_of-midway rules start input state number used rest written so_far)
    (said_from-prefix rules (lines_of rest)
    (record { state = state; number = number; used = used; written = written }))

-- the same with a part of a line's own text
pub line_prefix_of : {S E : Type 0} (rules : Rules S E) (start : S) (input : List ℕ) (state : S) (number used : ℕ)
    (rest written line more : List ℕ) (n : ℕ) → Midway rules start input state number used rest written
    → IsClosedLine line → rest ≡ line ++ more → used + length line ≤ LIMIT → IsPrefix
    (written ++ take n (turn_text (rules.turn state number (content line)))) (said_of rules start input).text
line_prefix_of rules start input state number used rest written line more n so_far one split fits =
    whole_prefix rules start input _ _
    (said_of-midway rules start input state number used rest written so_far
    ∙ ap (said_from rules (record { state = state; number = number; used = used; written = written }))
    (closed_lines line more rest one split))
    (take_prefix n written _ _
    (line_prefix rules (record { state = state; number = number; used = used; written = written }) line
    (lines_of more) (said_from-prefix rules (lines_of more)) fits))

-- the same with a part of the text of the last line, which has no newline
pub last_prefix_of : {S E : Type 0} (rules : Rules S E) (start : S) (input : List ℕ) (state : S) (number used : ℕ)
    (rest written line : List ℕ) (n : ℕ) → Midway rules start input state number used rest written
    → HasNoNewline line → 0 < length line → rest ≡ line → used + length line ≤ LIMIT → IsPrefix
    (written ++ take n (turn_text (rules.turn state number (content line)))) (said_of rules start input).text
last_prefix_of rules start input state number used rest written line n so_far unbroken some is fits =
    whole_prefix rules start input _ _
    (said_of-midway rules start input state number used rest written so_far
    ∙ ap (said_from rules (record { state = state; number = number; used = used; written = written }))
    (open_lines line rest unbroken some is))
    (take_prefix n written _ _
    (line_prefix rules (record { state = state; number = number; used = used; written = written }) line []
    (said_from-prefix rules []) fits))

-- the same with a part of a last text
pub said_prefix_of : {S E : Type 0} (rules : Rules S E) (start : S) (input written : List ℕ) (said : Said S E) (n : ℕ)
    → said_of rules start input ≡ behind written said
    → IsPrefix (written ++ take n said.text) (said_of rules start input).text
unfolding behind
said_prefix_of rules start input written said n same =
    whole_prefix rules start input _ _ same (take_prefix n written said.text _ ([], sym (append-nil _)))
