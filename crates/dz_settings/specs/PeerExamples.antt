-- Judge: texts of numbers, peers and policies, computed by the checker.
use Rattle.std.specs.Prelude.{◌≡◌, refl, [], ◌∷◌, Some, None, codes, map, replicate}
use Rattle.dz_settings.specs.declared.config.Policy.TheVariants.{Present, Off, Require}
use Rattle.dz_name.specs.Decimal.{number_of}
use Rattle.dz_settings.specs.Peer.{peer_of, policy_of, host_of}

pub greatest : number_of 18446744073709551615 (codes "18446744073709551615") ≡ Some 18446744073709551615
greatest = refl

pub too_great : number_of 18446744073709551615 (codes "18446744073709551616") ≡ None
too_great = refl

pub leading_zero_of_a_number : number_of 255 (codes "01") ≡ None
leading_zero_of_a_number = refl

pub with_port : peer_of (codes "192.0.2.10:5353") ≡ Some (record { address = 192 ∷ 0 ∷ 2 ∷ 10 ∷ []; port = 5353 })
with_port = refl

pub without_port : peer_of (codes "1.2.3.255") ≡ Some (record { address = 1 ∷ 2 ∷ 3 ∷ 255 ∷ []; port = 53 })
without_port = refl

pub leading_zero : peer_of (codes "1.2.3.04") ≡ None
leading_zero = refl

pub large_number : peer_of (codes "1.2.3.256") ≡ None
large_number = refl

pub port_0 : peer_of (codes "1.2.3.4:0") ≡ None
port_0 = refl

pub port_65536 : peer_of (codes "1.2.3.4:65536") ≡ None
port_65536 = refl

pub five_numbers : peer_of (codes "1.2.3.4.5") ≡ None
five_numbers = refl

pub a_policy : policy_of (codes "present") ≡ Some Present
a_policy = refl

pub other_policy : policy_of (codes "maybe") ≡ None
other_policy = refl

-- ---- numbers: decimal, without a sign, a space or a leading zero, up to their most
pub twice_the_greatest : number_of 18446744073709551615 (codes "36893488147419103232") ≡ None
twice_the_greatest = refl

pub none_but_0 : number_of 0 (codes "0") ≡ Some 0
none_but_0 = refl

pub texts_of_no_number : map (number_of 255) ([] ∷ codes "00" ∷ codes "01" ∷ codes "-1" ∷ codes "+1" ∷ codes " 1" ∷
    codes "1 " ∷ codes "1a" ∷ codes "256" ∷ [])
    ≡ replicate 9 None
texts_of_no_number = refl

-- ---- peers: an address, and a port that may be missing
pub lowest_address : peer_of (codes "0.0.0.0") ≡ Some (record { address = 0 ∷ 0 ∷ 0 ∷ 0 ∷ []; port = 53 })
lowest_address = refl

pub highest_address_and_port : peer_of (codes "255.255.255.255:65535")
    ≡ Some (record { address = 255 ∷ 255 ∷ 255 ∷ 255 ∷ []; port = 65535 })
highest_address_and_port = refl

pub lowest_port : peer_of (codes "10.0.0.1:1") ≡ Some (record { address = 10 ∷ 0 ∷ 0 ∷ 1 ∷ []; port = 1 })
lowest_port = refl

pub of_one_to_three_digits : peer_of (codes "1.20.200.99:9")
    ≡ Some (record { address = 1 ∷ 20 ∷ 200 ∷ 99 ∷ []; port = 9 })
of_one_to_three_digits = refl

pub port_of_the_dns : peer_of (codes "192.0.2.1:53") ≡ Some (record { address = 192 ∷ 0 ∷ 2 ∷ 1 ∷ []; port = 53 })
port_of_the_dns = refl

pub texts_of_no_peer : map peer_of ([] ∷ codes "1.2.3" ∷ codes "1.2.3.4.5" ∷ codes "1.2.3.256" ∷ codes "01.2.3.4" ∷
    codes "1.2.3.00" ∷ codes "1.2.3.4:" ∷ codes "1.2.3.4:0" ∷ codes "1.2.3.4:65536" ∷ codes "1.2.3.4:053" ∷
    codes "1.2.3.4:4294967349" ∷ codes "1.2.3.4:5:3" ∷ codes "+1.2.3.4" ∷ codes "1. 2.3.4" ∷ codes "1..3.4" ∷
    codes ":53" ∷ [])
    ≡ replicate 16 None
texts_of_no_peer = refl

-- ---- a host has no port
pub a_host : host_of (codes "192.0.2.1") ≡ Some (record { address = 192 ∷ 0 ∷ 2 ∷ 1 ∷ []; port = 53 })
a_host = refl

pub no_host_with_a_port : host_of (codes "192.0.2.1:53") ≡ None
no_host_with_a_port = refl

-- ---- policies, in small letters
pub off : policy_of (codes "off") ≡ Some Off
off = refl

pub require : policy_of (codes "require") ≡ Some Require
require = refl

pub no_capitals : policy_of (codes "Off") ≡ None
no_capitals = refl
