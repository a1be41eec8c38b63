-- Meaning: the lines of the log: words separated by single spaces.
use Rattle.std.specs.Prelude.{ℕ, ◌++◌, List, [], ◌∷◌, codes, decimal, slice_index, Option, Some, None}
use Rattle.std.specs.List.{flat_map}
use Rattle.dz_io.specs.declared.peer.Peer.{Peer}
use Rattle.dz_name.specs.Text.{text_of}
use Rattle.dz_name.specs.Words.{Name, Octets}
use Rattle.dz_zone.specs.Version.{Zone}
use Rattle.dz_zonemd.specs.declared.acceptance.Standing.{Standing}
use Rattle.dz_zonemd.specs.declared.acceptance.Standing.TheVariants.{Absent, Unsupported, Good, Bad}
use Rattle.dz_member.specs.declared.listing.Broken.{Broken as Reason}
use Rattle.dz_member.specs.declared.listing.Broken.TheVariants.{NoVersion, VersionTwice, OtherVersion, MemberTwice}
use Rattle.dz_member.specs.declared.listing.Broken.TheVariants.{CooTwice, TooManyMembers, ZoneTwice}
use Rattle.dz_member.specs.declared.change.Change.{Change}
use Rattle.dz_member.specs.declared.change.What.{What}
use Rattle.dz_member.specs.declared.change.What.TheVariants.{Added, Removed, Reset, Moved, MovedReset, Clash}
use Rattle.dz_member.specs.declared.change.What.TheVariants.{Regrouped}
use Rattle.dz_notify.specs.declared.notify.Heard.{Heard}
use Rattle.dz_notify.specs.declared.notify.Heard.TheVariants.{Taken, Stranger, NotOurs}
use Rattle.dz_take.specs.declared.ask.Ask.{Ask}
use Rattle.dz_take.specs.declared.ask.Ask.TheVariants.{Axfr, Ixfr}
use Rattle.dz_history.specs.declared.aftermath.Aftermath.{Aftermath}
use Rattle.dz_history.specs.declared.aftermath.Aftermath.TheVariants.{Member, Broken, Changes}
use Rattle.dz_job.specs.declared.verdict.Verdict.{Verdict}
use Rattle.dz_job.specs.declared.verdict.Verdict.TheVariants.{Published, Confirmed, Refused, PolicyRefused, Stale}
use Rattle.dz_job.specs.declared.verdict.Verdict.TheVariants.{OutOfMemory}
use Rattle.dz_job.specs.declared.verdict.Failure.{Failure}
use Rattle.dz_job.specs.declared.verdict.Failure.TheVariants as failures
use Rattle.dz_job.specs.Job.{JobOf, serial_in}
use Rattle.dz_report.specs.Reason.{reason_of}

-- a line with a space and a further word
abbrev pub also : Octets → Octets → Octets
also line word = line ++ (32 ∷ word)

-- a line with its end, a newline
abbrev pub end : Octets → Octets
end line = line ++ (10 ∷ [])

-- a text with a mark and a number in decimal
abbrev pub behind : Octets → ℕ → ℕ → Octets
behind text mark number = text ++ (mark ∷ decimal number)

-- a peer as `a.b.c.d:port`
abbrev pub peer_text : Peer → Octets
peer_text peer =
    let a = peer.address in
    behind (behind (behind (behind (decimal (slice_index a 0)) 46 (slice_index a 1)) 46 (slice_index a 2)) 46
    (slice_index a 3)) 58 peer.port

-- what is asked for, and for differences from which serial
abbrev pub ask_text : Ask → Option Zone → Octets
ask_text Axfr held = codes "axfr"
ask_text Ixfr held = also (codes "ixfr") (decimal (serial_in held))

-- `job <ticket> <zone> <ask> id <id> at <peer>`
abbrev pub job_line : JobOf → Octets
job_line job =
    let f = job.flight in
    end (also (also (also (also (also (also (also (codes "job") (decimal f.ticket)) (text_of f.zone))
    (ask_text f.ask job.held)) (codes "id")) (decimal f.id)) (codes "at")) (peer_text f.primary))

-- `failed <zone>`, or `stale <zone> <position>`
abbrev pub failure_line : Name → Failure → Octets
failure_line zone failures.Failed = end (also (codes "failed") (text_of zone))
failure_line zone (failures.Stale position) = end (also (also (codes "stale") (text_of zone)) (decimal position))

-- the word for how a NOTIFY is heard
abbrev pub heard_word : Heard → Octets
heard_word Taken = codes "taken"
heard_word Stranger = codes "stranger"
heard_word NotOurs = codes "not-ours"

-- `notify <zone> <how it is heard>`
abbrev pub notify_line : Name → Heard → Octets
notify_line zone heard = end (also (also (codes "notify") (text_of zone)) (heard_word heard))

-- the word for what the ZONEMD records of a version say
abbrev pub standing_word : Standing → Octets
standing_word Absent = codes "absent"
standing_word Unsupported = codes "unsupported"
standing_word Good = codes "good"
standing_word Bad = codes "bad"

-- the word for why a catalog's version has no listing
abbrev pub broken_word : Reason → Octets
broken_word NoVersion = codes "no-version"
broken_word VersionTwice = codes "version-twice"
broken_word OtherVersion = codes "other-version"
broken_word MemberTwice = codes "member-twice"
broken_word CooTwice = codes "coo-twice"
broken_word TooManyMembers = codes "too-many-members"
broken_word ZoneTwice = codes "zone-twice"

-- the catalog that holds a zone, or `configured` where the zone is a configured catalog
abbrev pub holder_text : Option Name → Octets
holder_text None = codes "configured"
holder_text (Some holder) = text_of holder

-- a change of a zone: its word, the zone, and the catalogs that it is about
abbrev pub change_text : Name → What → Octets
change_text zone (Added catalog) = also (also (codes "added") (text_of zone)) (text_of catalog)
change_text zone (Removed catalog) = also (also (codes "removed") (text_of zone)) (text_of catalog)
change_text zone (Reset catalog) = also (also (codes "reset") (text_of zone)) (text_of catalog)
change_text zone (Moved old new) = also (also (also (codes "moved") (text_of zone)) (text_of old)) (text_of new)
change_text zone (MovedReset old new) =
    also (also (also (codes "moved-reset") (text_of zone)) (text_of old)) (text_of new)
change_text zone (Clash holder) = also (also (codes "clash") (text_of zone)) (holder_text holder)
change_text zone (Regrouped catalog) = also (also (codes "regrouped") (text_of zone)) (text_of catalog)

-- the line of a change
abbrev pub change_line : Change → Octets
change_line change = end (change_text change.zone change.what)

-- the lines of what a new version of a zone changes beyond that zone
unfoldable pub aftermath_lines : Name → Aftermath → Octets
aftermath_lines zone Member = []
aftermath_lines zone (Broken reason) = end (also (also (codes "broken") (text_of zone)) (broken_word reason))
aftermath_lines zone (Changes changes) = flat_map change_line changes

-- the lines of a verdict about a zone
unfoldable pub verdict_lines : Name → Verdict → Octets
verdict_lines zone (Published position serial aftermath) =
    end (also (also (also (codes "published") (decimal position)) (text_of zone)) (decimal serial))
    ++ aftermath_lines zone aftermath
verdict_lines zone (Confirmed position serial) =
    end (also (also (also (codes "confirmed") (decimal position)) (text_of zone)) (decimal serial))
verdict_lines zone (Refused fault) = end (also (also (codes "refused") (text_of zone)) (reason_of fault))
verdict_lines zone (PolicyRefused standing) =
    end (also (also (codes "policy") (text_of zone)) (standing_word standing))
verdict_lines zone (Stale position) = end (also (also (codes "stale") (text_of zone)) (decimal position))
verdict_lines zone OutOfMemory = end (also (codes "nomemory") (text_of zone))
