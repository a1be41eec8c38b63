-- Judge: the lines of the script, as a reader of scripts takes them.
use Rattle.std.specs.Prelude.{◌≡◌, ◌≤◌, ℕ, ◌++◌, List, [], ◌∷◌, Some, None, map, filter, flat_map, codes}
use Rattle.std.specs.Prelude.{if◌then◌else◌}
use Rattle.std.specs.List.{AllByRecursion}
use Rattle.dz_script.specs.Lines.{lines_of, content, IsClosedLine}
use Rattle.dz_io.specs.declared.peer.Peer.{Peer}
use Rattle.dz_settings.specs.declared.config.Policy.TheVariants.{Present, Require}
use Rattle.dz_name.specs.Words.{Name, Octets}
use Rattle.dz_header.specs.declared.transport.Transport.TheVariants.{Udp}
use Rattle.dz_script.specs.Line.{line_of}
use Rattle.dz_script.specs.declared.line.Event.TheVariants.{Job, Take, Ask}
use Rattle.dz_script.specs.declared.line.Line.{Line}
use Rattle.dz_script.specs.declared.line.Line.TheVariants.{Catalog, Group, Event}
use Rattle.dz_gen.specs.Texts.{named}
use Rattle.dz_gen.specs.Records.{www}
use Rattle.dz_gen.specs.Messages.{query, catalog_begins, catalog_member, catalog_ends, catalog_changes, part_of}
use Rattle.dz_gen.specs.Messages.{whole_of, changes_of}
use Rattle.dz_gen.specs.Script.{numbers, is_tenth, is_changed, first_ticket, again_ticket, catalog_ticket}
use Rattle.dz_gen.specs.Script.{reset_ticket, change_ticket, script}

-- each line has its newline, and without it is read as the line in its place
pub record IsReadAs (text : Octets) (lines : List Line) : Type 0 where
  pub closed : AllByRecursion IsClosedLine (lines_of text)
  pub read : map (λ line. line_of (content line)) (lines_of text) ≡ map Some lines

-- the apex cat.test.
abbrev pub cat_test : Name
cat_test = codes "cat" ∷ codes "test" ∷ []

-- port 53 of an address
abbrev pub host : List ℕ → Peer
host address = record { address = address; port = 53 }

-- the catalog, whose policy is `present`, and its group `strict`, whose policy is `require`
abbrev pub setting_lines : List Line
setting_lines =
    Catalog (record {
      name = cat_test;
      policy = Present;
      primaries = host (192 ∷ 0 ∷ 2 ∷ 1 ∷ []) ∷ [];
      groups = [];
      key = None;
    })
    ∷ Group cat_test (record { word = codes "strict"; policy = Require; primaries = host (192 ∷ 0 ∷ 2 ∷ 2 ∷ []) ∷ [] })
    ∷ []

-- a job is asked for at a moment, and the one of this ticket gets octets
abbrev pub job_lines : ℕ → ℕ → Octets → List Line
job_lines moment ticket octets = Event moment Job ∷ Event moment (Take ticket octets) ∷ []

-- a request comes over UDP from 198.51.100.1
abbrev pub ask_of : ℕ → Octets → Line
ask_of moment request = Event moment (Ask Udp (host (198 ∷ 51 ∷ 100 ∷ 1 ∷ [])) request)

-- ---- the parts of the script
-- the catalog's first transfer
abbrev pub catalog_lines : List ℕ → List Line
catalog_lines ks = job_lines 1000 1 ((catalog_begins ++ flat_map catalog_member ks) ++ catalog_ends)

-- a zone's first transfer; each tenth breaks off
abbrev pub first_lines : ℕ → List Line
first_lines k =
    job_lines 1000 (first_ticket k) (if is_tenth k then part_of (first_ticket k) k else whole_of (first_ticket k) k)

-- the transfer of a tenth zone once more, whole
abbrev pub next_lines : ℕ → ℕ → List Line
next_lines n k = job_lines 1060 (again_ticket n k) (whole_of (again_ticket n k) k)

-- the catalog's change, and the first zone's transfer after its reset
abbrev pub reset_lines : ℕ → List Line
reset_lines n = job_lines 1100 (catalog_ticket n) (catalog_changes (catalog_ticket n))
    ++ job_lines 1100 (reset_ticket n) (whole_of (reset_ticket n) 1)

-- a zone's change to serial 2
abbrev pub change_lines : ℕ → ℕ → List Line
change_lines n k = job_lines 1100 (change_ticket n k) (changes_of (change_ticket n k) k)

-- each of these zones is asked for at a moment
abbrev pub asked_lines : ℕ → List ℕ → List Line
asked_lines moment ks = map (λ k. ask_of moment (query k (www k))) ks

-- the settings and all transfers
abbrev pub transfer_lines : ℕ → List Line
transfer_lines n =
    ((((setting_lines ++ catalog_lines (numbers n))
    ++ flat_map first_lines (numbers n))
    ++ flat_map (next_lines n) (filter is_tenth (numbers n)))
    ++ reset_lines n)
    ++ flat_map (change_lines n) (filter is_changed (numbers n))

-- all requests: each zone, a name of none, and each zone when it has expired
abbrev pub question_lines : ℕ → List Line
question_lines n =
    (asked_lines 1150 (numbers n)
    ++ ask_of 1150 (query 0 (named (codes "other."))) ∷ [])
    ++ asked_lines 1700 (numbers n)

-- all lines of the script
abbrev pub script_lines : ℕ → List Line
script_lines n = transfer_lines n ++ question_lines n

-- the script of at most 1,000 zones is read as these lines
abbrev pub IsReadable : ℕ → Type 0
IsReadable n = n ≤ 1000 → IsReadAs (script n) (script_lines n)
