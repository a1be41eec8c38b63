-- The number of the words.
use Rattle.std.proofs.Common.{◌≡◌, ◌∙◌, ℕ, Result, Ok, Err, ap, sym}
use Rattle.dz_words.specs.declared.words.Command.{Command}
use Rattle.dz_words.specs.declared.words.Command.TheVariants.{Answer, Replay, Rehearse, Serve, Produce}
use Rattle.dz_words.specs.declared.words.WordsError.{WordsError}

abbrev number_in : Result Command WordsError → ℕ
number_in (Ok Answer) = 0
number_in (Ok Replay) = 0
number_in (Ok (Rehearse number)) = number
number_in (Ok Serve) = 0
number_in (Ok Produce) = 0
number_in (Err error) = 0

pub number_is : (n m : ℕ) (command : Result Command WordsError) → command ≡ Ok (Rehearse n)
    → command ≡ Ok (Rehearse m) → n ≡ m
number_is n m command one other = ap number_in (sym one ∙ other)
