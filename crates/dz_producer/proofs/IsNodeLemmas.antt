-- What is known of nodes that lie elsewhere, and of the catalog that is made of them.
use Rattle.std.proofs.Common.{◌≡◌, ℕ, ◌<◌, ◌^◌, List, [], ◌∷◌, subst, sym, None}
use Rattle.std.specs.Borrow.{Bor}
use Rattle.std.specs.List.{All, AllByRecursion}
use Rattle.dz_name.specs.Name.{IsLabel}
use Rattle.dz_name.specs.Words.{Name}
use Rattle.dz_member.specs.declared.listing.Node.{Node}
use Rattle.dz_zone.specs.Version.{Zone}
use Rattle.dz_producer.specs.Amended.{IsCatalogOf}
use Rattle.dz_producer.specs.Faults.{produce_fault}
use Rattle.dz_producer.specs.Laws.{IsNode}
use Rattle.dz_producer.specs.Produced.{produced}
use Rattle.dz_producer.specs.inner.Nodes.{IsLed, values}
use Rattle.dz_producer.proofs.CatalogLemmas.{makes_catalog}
use Rattle.dz_producer.proofs.ListingLemmas.{by_turns}
use Rattle.dz_producer.proofs.SpelledLemmas.{all_from}

each_node : (bs : List (Bor Node)) → AllByRecursion (λ b. IsLabel b.now.label) bs
    → AllByRecursion (λ b. IsLed b.now) bs → AllByRecursion IsNode (values bs)
each_node [] labels led = tt
each_node (b ∷ bs) labels led =
    (record { label = labels.0; zone = led.0.zone; coo = led.0.coo }, each_node bs labels.1 led.1)

pub made_catalog : (apex : Name) (serial : ℕ) (bs : List (Bor Node)) (version : Zone) → serial < 2 ^ 32
    → All (λ b. IsLabel b.now.label) bs → All (λ b. IsLed b.now) bs → produce_fault apex serial (values bs) ≡ None
    → version ≡ produced apex serial (values bs) → IsCatalogOf serial version
made_catalog apex serial bs version small labels led none is =
    subst (IsCatalogOf serial) (sym is)
    (makes_catalog apex serial (values bs) small
    (all_from IsNode (values bs) (each_node bs (by_turns (λ (b : Bor Node). IsLabel b.now.label) bs labels)
    (by_turns (λ (b : Bor Node). IsLed b.now) bs led))) none)
