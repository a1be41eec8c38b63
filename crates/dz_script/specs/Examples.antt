-- Judge: lines that the checker computes.
use Rattle.std.specs.Prelude.{◌≡◌, refl, ℕ, List, [], ◌∷◌, Some, None, codes, ◌++◌, map, replicate, Option, Ok}
use Rattle.hex.specs.Hex.{decode_pairs}
use Rattle.dz_io.specs.declared.peer.Peer.{Peer}
use Rattle.dz_settings.specs.declared.config.Policy.TheVariants.{Present, Require, Off}
use Rattle.dz_name.specs.Name.{wire_of}
use Rattle.dz_name.specs.Text.{items, labels_from, with_label, name_of_text}
use Rattle.dz_name.specs.Words.{Name, Octets}
use Rattle.dz_header.specs.declared.transport.Transport.TheVariants.{Udp, Tcp}
use Rattle.dz_script.specs.Hex.{octets_in, taken_octets, message_octets, some_octets}
use Rattle.dz_script.specs.Line.{line_of}
use Rattle.dz_script.specs.Settings.{peers_of, primaries_of}
use Rattle.dz_script.specs.declared.line.Event.TheVariants.{Job, Take, Fail, Ask}
use Rattle.dz_script.specs.declared.line.Line.TheVariants.{Skip, Catalog, Group, Event}
use Rattle.dz_script.specs.declared.line.Line.{Line}
use Rattle.dz_script.specs.declared.lines.TheConstants.{LIMIT}
use Rattle.dz_script.specs.declared.line.TheConstants.{MOMENTS}

-- the name catalog.example.
abbrev catalog_example : Name
catalog_example = codes "catalog" ∷ codes "example" ∷ []

-- an IPv4 address and a port
abbrev host : List ℕ → ℕ → Peer
host address port = record { address = address; port = port }

pub nothing : line_of [] ≡ Some Skip
unfolding line_of
nothing = refl

pub a_comment : line_of (codes "# 1000 job") ≡ Some Skip
unfolding line_of
a_comment = refl

pub a_catalog : line_of (codes "catalog Catalog.example. present 192.0.2.1,192.0.2.2:5353")
    ≡ Some (Catalog (record {
      name = catalog_example;
      policy = Present;
      primaries =
          host (192 ∷ 0 ∷ 2 ∷ 1 ∷ []) 53 ∷ host (192 ∷ 0 ∷ 2 ∷ 2 ∷ []) 5353 ∷ [];
      groups = [];
      key = None;
    }))
unfolding line_of name_of_text items labels_from with_label wire_of primaries_of peers_of
a_catalog = refl

pub a_group : line_of (codes "group catalog.example edge require 192.0.2.3")
    ≡ Some (Group catalog_example
    (record { word = codes "edge"; policy = Require; primaries = host (192 ∷ 0 ∷ 2 ∷ 3 ∷ []) 53 ∷ [] }))
unfolding line_of name_of_text items labels_from with_label wire_of primaries_of peers_of
a_group = refl

pub no_word : line_of (codes "group catalog.example require 192.0.2.3") ≡ None
unfolding line_of name_of_text items labels_from with_label wire_of primaries_of peers_of
no_word = refl

pub nine_primaries : line_of
    (codes "catalog a off 1.1.1.1,1.1.1.1,1.1.1.1,1.1.1.1,1.1.1.1,1.1.1.1,1.1.1.1,1.1.1.1,1.1.1.1") ≡ None
unfolding line_of name_of_text items labels_from with_label wire_of primaries_of peers_of
nine_primaries = refl

-- fields are cut before the escapes of a name are read
pub an_escaped_space : line_of (codes "catalog a\\ b off 192.0.2.1") ≡ None
unfolding line_of name_of_text items labels_from with_label wire_of primaries_of peers_of
an_escaped_space = refl

pub a_job : line_of (codes "1000 job") ≡ Some (Event 1000 Job)
unfolding line_of
a_job = refl

pub the_last_moment : line_of (codes "1099511627775 job") ≡ Some (Event 1099511627775 Job)
unfolding line_of
the_last_moment = refl

pub too_late : line_of (codes "1099511627776 job") ≡ None
unfolding line_of
too_late = refl

pub two_spaces : line_of (codes "1000  job") ≡ None
unfolding line_of
two_spaces = refl

pub a_space_at_the_end : line_of (codes "1000 job ") ≡ None
unfolding line_of
a_space_at_the_end = refl

pub leading_zero : line_of (codes "01000 job") ≡ None
unfolding line_of
leading_zero = refl

pub no_event : line_of (codes "1000 jump") ≡ None
unfolding line_of
no_event = refl

pub a_take : line_of (codes "1000 take 1 00Ff") ≡ Some (Event 1000 (Take 1 (0 ∷ 255 ∷ [])))
unfolding line_of taken_octets decode_pairs
a_take = refl

pub no_octets : line_of (codes "1000 take 2 -") ≡ Some (Event 1000 (Take 2 []))
unfolding line_of taken_octets
no_octets = refl

pub odd_hex : line_of (codes "1000 udp 192.0.2.1 abc") ≡ None
unfolding line_of octets_in
odd_hex = refl

pub a_fail : line_of (codes "1100 fail 18446744073709551615") ≡ Some (Event 1100 (Fail 18446744073709551615))
unfolding line_of
a_fail = refl

pub over_udp : line_of (codes "1010 udp 192.0.2.1 0050")
    ≡ Some (Event 1010 (Ask Udp (host (192 ∷ 0 ∷ 2 ∷ 1 ∷ []) 53) (0 ∷ 80 ∷ [])))
unfolding line_of octets_in decode_pairs
over_udp = refl

pub over_tcp : line_of (codes "1010 tcp 192.0.2.1 0050")
    ≡ Some (Event 1010 (Ask Tcp (host (192 ∷ 0 ∷ 2 ∷ 1 ∷ []) 53) (0 ∷ 80 ∷ [])))
unfolding line_of octets_in decode_pairs
over_tcp = refl

-- an address has no port, and a request has an octet
pub a_port : line_of (codes "1010 udp 192.0.2.1:53 0050") ≡ None
unfolding line_of octets_in decode_pairs
a_port = refl

pub no_request : line_of (codes "1010 udp 192.0.2.1 -") ≡ None
unfolding line_of octets_in decode_pairs
no_request = refl

-- ---- lines of no form, and those that are skipped
-- all that computes a line: whoever unfolds `read` unfolds its whole list
read : Octets → Option Line
unfolding line_of name_of_text items labels_from with_label wire_of primaries_of peers_of octets_in taken_octets
    decode_pairs
read line = line_of line

pub comments_are_skipped : map line_of (codes "#" ∷ codes "# a comment" ∷ codes "#1000 job" ∷ [])
    ≡ replicate 3 (Some Skip)
unfolding read
comments_are_skipped = refl

pub lines_of_no_form : map line_of (codes " " ∷ codes " # a comment" ∷ codes "job" ∷ codes "1000" ∷ codes "catalog" ∷
    codes "group" ∷ [])
    ≡ replicate 6 None
unfolding read
lines_of_no_form = refl

abbrev bad_settings : List Octets
bad_settings =
    codes "catalog a off"
    ∷ codes "catalog a off 192.0.2.1 "
    ∷ codes "catalog a off 192.0.2.1 192.0.2.2"
    ∷ codes "catalog  a off 192.0.2.1"
    ∷ codes "catalog a..b off 192.0.2.1"
    ∷ codes "catalog a\\ b off 192.0.2.1"
    ∷ codes "catalog a maybe 192.0.2.1"
    ∷ codes "catalog a Off 192.0.2.1"
    ∷ codes "catalog a off 192.0.2.1,"
    ∷ codes "catalog a off ,192.0.2.1"
    ∷ codes "catalog a off 192.0.2.01"
    ∷ codes "catalog a off 192.0.2.1:0"
    ∷ codes "Catalog a off 192.0.2.1"
    ∷ codes "group a off 192.0.2.1"
    ∷ codes "group a  off 192.0.2.1"
    ∷ codes "group a w off 192.0.2.1 x"
    ∷ (codes "group a " ++ 127 ∷ codes " off 192.0.2.1")
    ∷ (codes "group a " ++ 31 ∷ codes " off 192.0.2.1")
    ∷ []

pub bad_settings_are_bad_lines : map line_of bad_settings ≡ replicate 18 None
unfolding read
bad_settings_are_bad_lines = refl

abbrev bad_events : List Octets
bad_events =
    codes "1099511627776 job"
    ∷ codes "01 job"
    ∷ codes " 1 job"
    ∷ codes "1  job"
    ∷ codes "1 job "
    ∷ codes "1 job 1"
    ∷ (codes "1" ++ 9 ∷ codes "job")
    ∷ codes "+1 job"
    ∷ codes "1000 jump"
    ∷ codes "1000 take 1"
    ∷ codes "1000 take 1 "
    ∷ codes "1000 take - 00"
    ∷ codes "1000 take 01 00"
    ∷ codes "1000 take 18446744073709551616 00"
    ∷ codes "1000 take 1 0"
    ∷ codes "1000 take 1 0g"
    ∷ codes "1000 take 1 --"
    ∷ codes "1000 take 1 00 00"
    ∷ codes "1000 fail"
    ∷ codes "1000 fail 1 -"
    ∷ codes "1000 udp 192.0.2.1 abc"
    ∷ codes "1000 udp 192.0.2.1 -"
    ∷ codes "1000 udp 192.0.2.1 "
    ∷ codes "1000 udp 192.0.2.1:53 00"
    ∷ codes "1000 udp 192.0.2.1,192.0.2.2 00"
    ∷ codes "1000 sctp 192.0.2.1 00"
    ∷ codes "1000 catalog a off 192.0.2.1"
    ∷ []

pub bad_events_are_bad_lines : map line_of bad_events ≡ replicate 27 None
unfolding read
bad_events_are_bad_lines = refl

-- ---- there are up to 8 primaries
abbrev last : ℕ → Peer
last n = host (1 ∷ 1 ∷ 1 ∷ n ∷ []) 53

pub eight_primaries : line_of (codes "catalog a off 1.1.1.1,1.1.1.2,1.1.1.3,1.1.1.4,1.1.1.5,1.1.1.6,1.1.1.7,1.1.1.8")
    ≡ Some (Catalog (record {
      name = codes "a" ∷ [];
      policy = Off;
      primaries = map last (1 ∷ 2 ∷ 3 ∷ 4 ∷ 5 ∷ 6 ∷ 7 ∷ 8 ∷
          []);
      groups = [];
      key = None;
    }))
unfolding read
eight_primaries = refl

pub nine_primaries_of_nine_hosts :
    line_of (codes "catalog a off 1.1.1.1,1.1.1.2,1.1.1.3,1.1.1.4,1.1.1.5,1.1.1.6,1.1.1.7,1.1.1.8,1.1.1.9")
    ≡ None
unfolding read
nine_primaries_of_nine_hosts = refl

-- ---- a word has up to 255 octets
abbrev with_word : ℕ → Octets
with_word n = codes "group a " ++ replicate n 119 ++ codes " off 1.1.1.1"

pub a_word_of_255 : line_of (with_word 255)
    ≡ Some (Group (codes "a" ∷ []) (record { word = replicate 255 119; policy = Off; primaries = last 1 ∷ [] }))
unfolding read
a_word_of_255 = refl

pub a_word_of_256 : line_of (with_word 256) ≡ None
unfolding read
a_word_of_256 = refl

-- ---- a request has up to 65,535 octets, and a stream more
pub a_request_of_65535 : message_octets (Ok (replicate 65535 0)) ≡ Some (replicate 65535 0)
a_request_of_65535 = refl

pub a_request_of_65536 : message_octets (Ok (replicate 65536 0)) ≡ None
a_request_of_65536 = refl

pub a_stream_of_65536 : some_octets (Ok (replicate 65536 0)) ≡ Some (replicate 65536 0)
a_stream_of_65536 = refl

-- ---- the limits of scripts, so that none can change: of octets, and of moments
pub limit_is_268435456 : LIMIT ≡ 268435456
limit_is_268435456 = refl

pub moments_is_1099511627776 : MOMENTS ≡ 1099511627776
moments_is_1099511627776 = refl
