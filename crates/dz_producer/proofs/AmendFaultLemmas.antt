-- The first fault of a change.
use Rattle.std.proofs.Common.{◌≡◌, ℕ, Bool, true, false, not, ◌||◌, List, length, refl, sym, ◌∙◌, ap, Some, None}
use Rattle.std.specs.Prelude.{nat_lt}
use Rattle.std.specs.List.{list_any, list_all}
use Rattle.dz_name.specs.Name.{same_label}
use Rattle.dz_name.specs.Words.{Octets}
use Rattle.dz_settings.specs.Twice.{has_twice}
use Rattle.dz_serial.specs.Serial.{is_newer}
use Rattle.dz_zone.specs.Version.{Zone}
use Rattle.dz_xfr.specs.Apex.{held_serial}
use Rattle.dz_member.specs.declared.listing.Node.{Node}
use Rattle.dz_producer.specs.Amended.{listed, no_label, nodes_after, difference_octets, amend_fault}
use Rattle.dz_producer.specs.Faults.{produce_fault}
use Rattle.dz_producer.specs.declared.fault.ProduceFault.{ProduceFault}
use Rattle.dz_producer.specs.declared.fault.AmendFault.TheVariants.{OldSerial, NoLabel, Produce, TooLong}

module _ (old : Zone) (serial : ℕ) (dropped : List Octets) (added : List Node) where
  pub old_fault : is_newer (held_serial old) serial ≡ false → amend_fault old serial dropped added ≡ Some OldSerial
  unfolding amend_fault
  old_fault n = rw n refl

  module _ (n : is_newer (held_serial old) serial ≡ true) where
    pub label_fault : no_label old dropped ≡ true → amend_fault old serial dropped added ≡ Some NoLabel
    unfolding amend_fault
    label_fault l = rw (n, l) refl

    module _ (l : no_label old dropped ≡ false) where
      pub nodes_fault : (fault : ProduceFault) → produce_fault old.apex serial (nodes_after old dropped added)
          ≡ Some fault → amend_fault old serial dropped added ≡ Some (Produce fault)
      unfolding amend_fault
      nodes_fault fault f = rw (n, l, f) refl

      module _ (f : produce_fault old.apex serial (nodes_after old dropped added) ≡ None) where
        pub long_fault : nat_lt 67108864 (length (difference_octets old serial dropped added)) ≡ true
            → amend_fault old serial dropped added ≡ Some TooLong
        unfolding amend_fault
        long_fault t = rw (n, l, f, t) refl

        pub none_holds : nat_lt 67108864 (length (difference_octets old serial dropped added)) ≡ false
            → amend_fault old serial dropped added ≡ None
        unfolding amend_fault
        none_holds t = rw (n, l, f, t) refl

-- a label that is dropped twice, or that is that of no node
pub twice_dropped : (old : Zone) (dropped : List Octets) → has_twice same_label dropped ≡ true
    → no_label old dropped ≡ true
twice_dropped old dropped t = rw t refl

or_true : (b : Bool) → (b || true) ≡ true
or_true true = refl
or_true false = refl

pub not_listed : (old : Zone) (dropped : List Octets) (nodes : List Node) → nodes ≡ listed old
    → list_all (λ label. list_any (λ node. same_label node.label label) nodes) dropped ≡ false
    → no_label old dropped ≡ true
not_listed old dropped nodes are f =
    let g : list_all (λ label. list_any (λ node. same_label node.label label) (listed old)) dropped ≡ false =
    ap (λ (ns : List Node). list_all (λ label. list_any (λ node. same_label node.label label) ns) dropped)
    (sym are) ∙ f in
    ap (λ b. has_twice same_label dropped || not b) g ∙ or_true (has_twice same_label dropped)
