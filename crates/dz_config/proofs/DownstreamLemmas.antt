-- Addresses that are put into an array one after the other.
use Rattle.std.proofs.Common.{◌≡◌, ℕ, ◌+◌, ◌<◌, List, [], ◌∷◌, ◌++◌, length, take, get_or, sym, ap, ◌∙◌, add-one}
use Rattle.std.proofs.Math.ListN.{set}
use Rattle.std.proofs.Math.Seq.{take-suc-set}
use Rattle.std.proofs.lemmas.List.{take_more, map_push}
use Rattle.dz_name.specs.Words.{Octets}
use Rattle.dz_io.specs.declared.peer.Peer.{Peer}
use Rattle.dz_config.specs.Document.{addresses_of}

-- one more
pub put_more : (addresses : List Octets) (hosts : List Peer) (place : ℕ) (host : Peer) → place < length addresses
    → place < length hosts → host ≡ get_or hosts place host
    → take place addresses ≡ addresses_of (take place hosts)
    → take (place + 1) (set addresses place host.address) ≡ addresses_of (take (place + 1) hosts)
put_more addresses hosts place host room lt is so =
    ap (λ n. take n (set addresses place host.address)) (add-one place)
    ∙ take-suc-set addresses place host.address room
    ∙ ap (λ xs. xs ++ host.address ∷ []) so
    ∙ sym (map_push (λ (p : Peer). p.address) (take place hosts) host)
    ∙ ap (λ (x : Peer). addresses_of (take place hosts ++ x ∷ [])) is
    ∙ ap addresses_of (sym (take_more hosts place host lt))
