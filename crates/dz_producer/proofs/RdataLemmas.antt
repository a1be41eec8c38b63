-- RDATA in canonical form.
use Rattle.std.proofs.Common.{◌≡◌, ℕ, ◌+◌, ◌-◌, ◌≤◌, true, List, [], ◌∷◌, ◌++◌, length, arith, append-nil}
use Rattle.std.proofs.Common.{length-append, Some}
use Rattle.std.specs.Prelude.{◌==◌, nat_le}
use Rattle.std.proofs.lemmas.Bool.Decides.{nat_tests}
use Rattle.dz_name.specs.Name.{wire_of, IsName}
use Rattle.dz_name.specs.Reading.{canonical_end}
use Rattle.dz_name.proofs.CanonicalLemmas.{canonical_end_wire}
use Rattle.dz_record.specs.Fields.{fits, field_end, fields_of, is_rdata}
use Rattle.dz_record.specs.declared.fields.Field.TheVariants.{DomainName, Remainder}

same_number : (n : ℕ) → (n == n) ≡ true
same_number n = grind (arith, nat_tests)

-- a name alone
pub name_rdata : (kind : ℕ) (name : List (List ℕ)) → fields_of kind ≡ DomainName ∷ [] → IsName name
    → is_rdata kind (wire_of name) ≡ true
unfolding fits field_end
name_rdata kind name row is =
    let none = append-nil (wire_of name) in
    let size : 0 + length (wire_of name) ≡ length (wire_of name) = omega arith in
    let end : canonical_end (wire_of name) 0 ≡ Some (length (wire_of name)) =
    rw (none, size) at (canonical_end_wire [] name [] is) in
    let few : nat_le (length (wire_of name)) 65535 ≡ true = grind (arith, nat_tests, is.short) in
    rw (few, row, end) (same_number (length (wire_of name)))

-- what is kept as it is
pub rest_rdata : (kind : ℕ) (rdata : List ℕ) → fields_of kind ≡ Remainder ∷ [] → length rdata ≤ 65535
    → is_rdata kind rdata ≡ true
unfolding fits field_end
rest_rdata kind rdata row short =
    let few : nat_le (length rdata) 65535 ≡ true = grind (arith, nat_tests) in
    rw (few, row) (same_number (length rdata))

-- two names and 20 octets
pub soa_rdata : (a b : List (List ℕ)) (numbers : List ℕ) → IsName a → IsName b → length numbers ≡ 20
    → is_rdata 6 (wire_of a ++ (wire_of b ++ numbers)) ≡ true
unfolding fits field_end fields_of
soa_rdata a b numbers is also count =
    let zero : 0 + length (wire_of a) ≡ length (wire_of a) = omega arith in
    let first : canonical_end (wire_of a ++ (wire_of b ++ numbers)) 0 ≡ Some (length (wire_of a)) =
    rw zero at (canonical_end_wire [] a (wire_of b ++ numbers) is) in
    let second : canonical_end (wire_of a ++ (wire_of b ++ numbers)) (length (wire_of a))
    ≡ Some (length (wire_of a) + length (wire_of b)) = canonical_end_wire (wire_of a) b numbers also in
    let n : length (wire_of a ++ (wire_of b ++ numbers)) ≡ (length (wire_of a) + length (wire_of b)) + 20 =
    omega (arith, length-append (wire_of a) (wire_of b ++ numbers), length-append (wire_of b) numbers) in
    let few : nat_le (length (wire_of a ++ (wire_of b ++ numbers))) 65535 ≡ true =
    grind (arith, nat_tests, is.short, also.short) in
    let room : nat_le 20 (length (wire_of a ++ (wire_of b ++ numbers)) - (length (wire_of a) + length (wire_of b)))
    ≡ true = grind (arith, nat_tests) in
    let ends : ((length (wire_of a) + length (wire_of b)) + 20 == length (wire_of a ++ (wire_of b ++ numbers)))
    ≡ true = grind (arith, nat_tests) in
    rw (few, first, second, room) ends
