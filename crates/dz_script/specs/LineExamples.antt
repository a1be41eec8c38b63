-- Judge: rows that the checker computes.
use Rattle.std.specs.Prelude.{◌≡◌, [], ◌∷◌, refl}
use Rattle.dz_script.specs.Lines.{onto_first, lines_of, content}

-- `a`, a newline, a newline, `b`: two lines with their newlines, and a last one without
lines_of-three : lines_of (97 ∷ 10 ∷ 10 ∷ 98 ∷ []) ≡ (97 ∷ 10 ∷ []) ∷ (10 ∷ []) ∷ (98 ∷ []) ∷ []
unfolding lines_of onto_first
lines_of-three = refl

-- nothing is no line, and a newline at the end begins none
lines_of-none : lines_of [] ≡ []
unfolding lines_of onto_first
lines_of-none = refl

lines_of-one : lines_of (97 ∷ 10 ∷ []) ≡ (97 ∷ 10 ∷ []) ∷ []
unfolding lines_of onto_first
lines_of-one = refl

-- a line without its newline
content-closed : content (97 ∷ 98 ∷ 10 ∷ []) ≡ 97 ∷ 98 ∷ []
unfolding content
content-closed = refl

-- a last line without its newline, alone and after others
lines_of-unclosed : lines_of (97 ∷ []) ≡ (97 ∷ []) ∷ []
unfolding lines_of onto_first
lines_of-unclosed = refl

lines_of-unclosed_behind_others : lines_of (10 ∷ 10 ∷ 97 ∷ 98 ∷ 10 ∷ 99 ∷ 100 ∷ [])
    ≡ (10 ∷ []) ∷ (10 ∷ []) ∷ (97 ∷ 98 ∷ 10 ∷ []) ∷ (99 ∷ 100 ∷ []) ∷ []
unfolding lines_of onto_first
lines_of-unclosed_behind_others = refl
