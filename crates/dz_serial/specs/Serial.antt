-- Meaning: serial numbers of zones, modulo 2^32, and which of two is newer (RFC 1982 sections 3.1 and 3.2).
use Rattle.std.specs.Prelude.{◌≡◌, ◌<◌, ℕ, ◌+◌, ◌-◌, ◌^◌, ◌%◌, Bool, true, false, ◌&&◌, ◌||◌, nat_lt}

-- whether b is newer than a: it is greater by less than 2^31, or less by more than 2^31 (RFC 1982 section 3.2)
abbrev pub is_newer : ℕ → ℕ → Bool
is_newer a b = (nat_lt a b && nat_lt (b - a) (2 ^ 31)) || (nat_lt b a && nat_lt (2 ^ 31) (a - b))

-- a serial number plus this number, modulo 2^32 (RFC 1982 section 3.1)
abbrev pub sum : ℕ → ℕ → ℕ
sum serial n = (serial + n) % 2 ^ 32

-- no serial number is newer than itself
abbrev pub NeverItself : Type 0
NeverItself = (a : ℕ) → is_newer a a ≡ false

-- of two serial numbers at a distance of exactly 2^31 neither is newer
abbrev pub NeitherHalfWay : Type 0
NeitherHalfWay = (a : ℕ) → a < 2 ^ 32 → (is_newer a (sum a (2 ^ 31)) ≡ false) × (is_newer (sum a (2 ^ 31)) a ≡ false)

-- of two serial numbers only one is newer than the other
abbrev pub NeverBoth : Type 0
NeverBoth = (a b : ℕ) → is_newer a b ≡ true → is_newer b a ≡ false

-- adding at least 1 and less than 2^31 to a serial number makes a newer one
abbrev pub SumsAreNewer : Type 0
SumsAreNewer = (a n : ℕ) → a < 2 ^ 32 → 0 < n → n < 2 ^ 31 → is_newer a (sum a n) ≡ true
