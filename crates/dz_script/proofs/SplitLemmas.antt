-- How octets fall into lines.
use Rattle.std.proofs.Common.{◌≡◌, ◌≢◌, ◌<◌, ℕ, Bool, true, false, suc, nat_eq, List, [], ◌∷◌, ◌++◌, length, refl, ◌∙◌}
use Rattle.std.proofs.Common.{ap, append_assoc, arith}
use Rattle.std.proofs.lemmas.Bool.Decides.{nat_tests}
use Rattle.std.proofs.lemmas.List.{append-nil}
use Rattle.std.specs.List.{AllByRecursion}
use Rattle.dz_script.specs.Lines.{lines_of, onto_first, octets_of, content, HasNoNewline, IsClosedLine}

not_ten : (octet : ℕ) → octet ≢ 10 → nat_eq octet 10 ≡ false
not_ten octet other = grind (arith, nat_tests)

-- a front without a newline, a newline and the rest: the first line, and the lines of the rest
pub lines_of-newline : (front more : List ℕ) → HasNoNewline front
    → lines_of (front ++ 10 ∷ more) ≡ (front ++ 10 ∷ []) ∷ lines_of more
unfolding lines_of onto_first
lines_of-newline [] more unbroken = refl
lines_of-newline (octet ∷ front) more unbroken =
    rw (not_ten octet unbroken.0, lines_of-newline front more unbroken.1) refl

-- octets without a newline are one line
pub lines_of-last : (octet : ℕ) (octets : List ℕ) → HasNoNewline (octet ∷ octets)
    → lines_of (octet ∷ octets) ≡ (octet ∷ octets) ∷ []
unfolding lines_of onto_first
lines_of-last octet [] unbroken = rw (not_ten octet unbroken.0) refl
lines_of-last octet (next ∷ octets) unbroken =
    let rest : lines_of (next ∷ octets) ≡ (next ∷ octets) ∷ [] = lines_of-last next octets unbroken.1 in
    let first : lines_of (octet ∷ next ∷ octets) ≡ onto_first octet (lines_of (next ∷ octets)) =
    rw (not_ten octet unbroken.0) refl in
    first ∙ ap (onto_first octet) rest

-- octets of which the first line has more than this
pub record Longer (size : ℕ) (octets : List ℕ) : Type 0 where
  pub line : List ℕ
  pub lines : List (List ℕ)
  pub lines_are : lines_of octets ≡ line ∷ lines
  pub longer : size < length line

onto_longer : (octet : ℕ) (lines : List (List ℕ))
    → (line : List ℕ) × (rest : List (List ℕ)) × (onto_first octet lines ≡ line ∷ rest) × (0 < length line)
unfolding onto_first
onto_longer octet [] = (octet ∷ [], [], refl, omega arith)
onto_longer octet (line ∷ lines) = (octet ∷ line, lines, refl, omega arith)

some_line : (octet : ℕ) (octets : List ℕ) (b : Bool) → nat_eq octet 10 ≡ b → Longer 0 (octet ∷ octets)
unfolding lines_of
some_line octet octets true is =
    record { line = 10 ∷ []; lines = lines_of octets; lines_are = rw is refl; longer = omega arith }
some_line octet octets false is =
    let onto = onto_longer octet (lines_of octets) in
    record { line = onto.0; lines = onto.1; lines_are = rw is onto.2; longer = onto.3 }

onto_front : (octet size : ℕ) (octets : List ℕ) → octet ≢ 10 → Longer size octets → Longer (suc size) (octet ∷ octets)
unfolding lines_of onto_first
onto_front octet size octets other rest = record {
  line = octet ∷ rest.line;
  lines = rest.lines;
  lines_are = rw (not_ten octet other, rest.lines_are) refl;
  longer = omega (arith, rest.longer);
}

-- a front without a newline that isn't all: the first line has more octets than it
pub lines_of-long : (front more : List ℕ) → HasNoNewline front → 0 < length more
    → Longer (length front) (front ++ more)
lines_of-long [] [] unbroken some = absurd (omega arith)
lines_of-long [] (octet ∷ octets) unbroken some = some_line octet octets (nat_eq octet 10) refl
lines_of-long (octet ∷ front) more unbroken some =
    onto_front octet (length front) (front ++ more) unbroken.0 (lines_of-long front more unbroken.1 some)

-- whole lines and a rest: these lines, and those of the rest
pub lines_of-octets_of : (done : List (List ℕ)) (rest : List ℕ) → AllByRecursion IsClosedLine done
    → lines_of (octets_of done ++ rest) ≡ done ++ lines_of rest
unfolding octets_of
lines_of-octets_of [] rest closed = refl
lines_of-octets_of (line ∷ done) rest closed =
    rw (
      closed.0.line_is,
      append_assoc,
      append_assoc,
      lines_of-newline closed.0.front
          (octets_of done ++ rest) closed.0.unbroken,
      lines_of-octets_of done rest closed.1,
    ) refl

-- a line is its front without the newline
pub content-closed : (front : List ℕ) → HasNoNewline front → content (front ++ 10 ∷ []) ≡ front
unfolding content
content-closed [] unbroken = refl
content-closed (octet ∷ front) unbroken = rw (not_ten octet unbroken.0, content-closed front unbroken.1) refl

-- a line that has no newline is itself
pub content-open : (line : List ℕ) → HasNoNewline line → content line ≡ line
unfolding content
content-open [] unbroken = refl
content-open (octet ∷ line) unbroken = rw (not_ten octet unbroken.0, content-open line unbroken.1) refl

pub joined-append : (done : List (List ℕ)) (line : List ℕ) → octets_of (done ++ line ∷ []) ≡ octets_of done ++ line
unfolding octets_of
joined-append [] line = append-nil line
joined-append (first ∷ done) line = rw (joined-append done line, append_assoc) refl

pub closed-append : (done : List (List ℕ)) (line : List ℕ) → AllByRecursion IsClosedLine done → IsClosedLine line
    → AllByRecursion IsClosedLine (done ++ line ∷ [])
closed-append [] line closed one = (one, tt)
closed-append (first ∷ done) line closed one = (closed.0, closed-append done line closed.1 one)
