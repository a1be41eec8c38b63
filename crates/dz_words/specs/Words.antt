-- Meaning: the words of the command line.
use Rattle.std.specs.Prelude.{ℕ, List, [], ◌∷◌, Option, Some, None, Result, Ok, Err, nat_lt, codes, if◌then◌else◌}
use Rattle.std.specs.Str.{bytes_eq}
use Rattle.dz_name.specs.Words.{Octets}
use Rattle.dz_name.specs.Decimal.{number_of}
use Rattle.dz_words.specs.declared.words.Command.{Command}
use Rattle.dz_words.specs.declared.words.Command.TheVariants.{Answer, Replay, Rehearse, Serve, Produce}
use Rattle.dz_words.specs.declared.words.WordsError.{WordsError}
use Rattle.dz_words.specs.declared.words.WordsError.TheVariants.{Usage}

-- the command of one word
abbrev pub one_word : Octets → Result Command WordsError
one_word word =
    if bytes_eq word (codes "answer") then Ok Answer
    else if bytes_eq word (codes "replay") then Ok Replay
    else if bytes_eq word (codes "serve") then Ok Serve
    else if bytes_eq word (codes "produce") then Ok Produce
    else Err Usage

-- the rehearsal of a number, which is from 1 on
abbrev pub rehearsal_of : Option ℕ → Result Command WordsError
rehearsal_of None = Err Usage
rehearsal_of (Some number) = if nat_lt 0 number then Ok (Rehearse number) else Err Usage

-- the command of a word and a number
abbrev pub two_words : Octets → Octets → Result Command WordsError
two_words word number = if bytes_eq word (codes "rehearse") then rehearsal_of (number_of 1000 number) else Err Usage

-- the five forms are `answer`; `replay`; `produce`; `rehearse` and a decimal number from 1 to 1000 without leading
-- zeros; `serve`
abbrev pub command_of : List Octets → Result Command WordsError
command_of [] = Err Usage
command_of (word ∷ []) = one_word word
command_of (word ∷ number ∷ []) = two_words word number
command_of (word ∷ number ∷ more ∷ words) = Err Usage
