-- Meaning: the names and lines of a generated script.
use Rattle.std.specs.Prelude.{◌≡◌, ℕ, ◌++◌, [], drop, length, codes, decimal, Result, Ok, Err}
use Rattle.hex.specs.Hex.{encode_lower}
use Rattle.dz_name.specs.Text.{name_of_text}
use Rattle.dz_name.specs.Words.{Name, Octets}
use Rattle.dz_name.specs.declared.text.NameError.{NameError}

-- a number below 10,000 as four decimal digits
abbrev pub digits : ℕ → Octets
digits k = drop (length (decimal k)) (codes "0000") ++ decimal k

-- a number as four decimal digits between texts
abbrev pub numbered : Octets → ℕ → Octets → Octets
numbered before k behind = before ++ (digits k ++ behind)

-- a name that was read; the texts below are all names
abbrev pub name_or_root : Result Name NameError → Name
name_or_root (Ok name) = name
name_or_root (Err error) = []

-- the name that a text spells (RFC 1035 section 5.1)
abbrev pub named : Octets → Name
named text = name_or_root (name_of_text text)

-- a text spells a name
abbrev pub IsSpelled : Octets → Type 0
IsSpelled text = (name : Name) × (name_of_text text ≡ Ok name)

-- a job is asked for at a moment
abbrev pub job_line : Octets → Octets
job_line moment = moment ++ codes " job\n"

-- a job gets octets
abbrev pub take_line : Octets → ℕ → Octets → Octets
take_line moment ticket octets =
    moment ++ (codes " take " ++ (decimal ticket ++ (codes " " ++ (encode_lower octets ++ codes "\n"))))

-- a job is asked for, and gets octets
abbrev pub transfer : Octets → ℕ → Octets → Octets
transfer moment ticket octets = job_line moment ++ take_line moment ticket octets

-- a request comes over UDP
abbrev pub ask_line : Octets → Octets → Octets
ask_line moment octets = moment ++ (codes " udp 198.51.100.1 " ++ (encode_lower octets ++ codes "\n"))
