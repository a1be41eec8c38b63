-- Judge: the words of the command line, computed by the checker.
use Rattle.std.specs.Prelude.{◌≡◌, refl, List, [], ◌∷◌, map, replicate, codes, Ok, Err}
use Rattle.dz_name.specs.Words.{Octets}
use Rattle.dz_words.specs.Words.{command_of}
use Rattle.dz_words.specs.declared.words.Command.TheVariants.{Answer, Replay, Rehearse, Serve, Produce}
use Rattle.dz_words.specs.declared.words.WordsError.TheVariants.{Usage}
use Rattle.dz_words.specs.declared.words.TheConstants.{REHEARSALS}

-- ---- the five forms
pub answer : command_of (codes "answer" ∷ []) ≡ Ok Answer
answer = refl

pub replay : command_of (codes "replay" ∷ []) ≡ Ok Replay
replay = refl

pub serve : command_of (codes "serve" ∷ []) ≡ Ok Serve
serve = refl

pub produce : command_of (codes "produce" ∷ []) ≡ Ok Produce
produce = refl

pub rehearse_1 : command_of (codes "rehearse" ∷ codes "1" ∷ []) ≡ Ok (Rehearse 1)
rehearse_1 = refl

pub rehearse_1000 : command_of (codes "rehearse" ∷ codes "1000" ∷ []) ≡ Ok (Rehearse 1000)
rehearse_1000 = refl

-- ---- other words are none
abbrev others : List (List Octets)
others =
    []
    ∷ (codes "Answer" ∷ [])
    ∷ (codes "--help" ∷ [])
    ∷ (codes "answer" ∷ codes "now" ∷ [])
    ∷ (codes "serve" ∷ codes "serve" ∷ [])
    ∷ (codes "rehearse" ∷ [])
    ∷ (codes "rehearse" ∷ codes "0" ∷ [])
    ∷ (codes "rehearse" ∷ codes "01" ∷ [])
    ∷ (codes "rehearse" ∷ codes "1001" ∷ [])
    ∷ (codes "rehearse" ∷ codes "+1" ∷ [])
    ∷ (codes "rehearse" ∷ [] ∷ [])
    ∷ (codes "rehearse" ∷ codes "1" ∷ codes "2" ∷ [])
    ∷ []

pub others_are_no_command : map command_of others ≡ replicate 12 (Err Usage)
others_are_no_command = refl

-- ---- the limit of rehearsals, so that it can't change
pub rehearsals_is_1000 : REHEARSALS ≡ 1000
rehearsals_is_1000 = refl
