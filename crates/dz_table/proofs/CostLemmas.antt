-- What searches of a table take, one after another.
use Rattle.std.proofs.Common.{◌≡◌, ℕ, ◌+◌, ◌*◌, ◌≤◌, List, length, sym, ◌∙◌, ap, arith, subst}
use Rattle.std.proofs.lemmas.Nat.{mul-le}
use Rattle.std.proofs.lemmas.List.{length-map}
use Rattle.dz_chunks.specs.Search.{TakesAtMost}
use Rattle.dz_table.specs.Slot.{SlotOf}
use Rattle.dz_table.specs.Table.{SearchesTake}
use Rattle.dz_table.specs.inner.Kept.{slots_of}

pub slots_count : (entries : List (List (List ℕ) × SlotOf)) (slots : List SlotOf) → slots_of entries ≡ slots
    → length entries ≡ length slots
slots_count entries slots is = sym (length-map entries (λ entry. entry.1)) ∙ ap length is

pub of_slots : (entries : List (List (List ℕ) × SlotOf)) (slots : List SlotOf) (more taken : ℕ)
    → slots_of entries ≡ slots → TakesAtMost (length entries) more taken → TakesAtMost (length slots) more taken
of_slots entries slots more taken is h = subst (λ n. TakesAtMost n more taken) (slots_count entries slots is) h

-- one search more
pub one_more : (n searches more before taken : ℕ) (all : ℕ) → searches + 1 ≤ more → SearchesTake n searches before
    → TakesAtMost n 22 taken → all ≤ before + taken → SearchesTake n more all
one_more n searches more before taken all le so one sum bits enough =
    let m : (searches + 1) * (bits + 22) ≤ more * (bits + 22) =
    mul-le (searches + 1) (bits + 22) more (bits + 22) le (omega arith) in
    omega (arith, so bits enough, one bits enough)

pub last_one : (entries : List (List (List ℕ) × SlotOf)) (slots : List SlotOf) (searches more before taken all : ℕ)
    → slots_of entries ≡ slots → searches + 1 ≤ more
    → SearchesTake (length entries) searches before → TakesAtMost (length entries) 22 taken → all ≤ before + taken
    → SearchesTake (length slots) more all
last_one entries slots searches more before taken all is le so one sum =
    subst (λ n. SearchesTake n more all) (slots_count entries slots is)
    (one_more (length entries) searches more before taken all le so one sum)

-- as many searches or more
pub no_more : (n searches more before all : ℕ) → searches ≤ more → SearchesTake n searches before → all ≤ before
    → SearchesTake n more all
no_more n searches more before all le so sum bits enough =
    let m : searches * (bits + 22) ≤ more * (bits + 22) =
    mul-le searches (bits + 22) more (bits + 22) le (omega arith) in
    omega (arith, so bits enough)

-- searches after others
pub together : (n searches more before taken all : ℕ) → SearchesTake n searches before → SearchesTake n more taken
    → all ≤ before + taken → SearchesTake n (searches + more) all
together n searches more before taken all so then sum bits enough = omega (arith, so bits enough, then bits enough)

pub none_taken : (n : ℕ) → SearchesTake n 0 0
none_taken n bits enough = omega arith
