-- What may be sent to threads, and shared by them.
use denote.Ref.{NamedLft}
use denote.RattleType.{RattleType}
use denote.Param.Send.{IsSend, IsSync, sendable}
use Rattle.core.specs.declared.ledger.Ledger as ledger
use Rattle.core.proofs.ledger.Sent.{book_send}
use Rattle.std.proofs.Crossing.{crosses}
use Rattle.std.proofs.MapsCrossing as maps
use Rattle.dz_name.specs.contracts.kept_name.KeptName as KeptName
use Rattle.dz_member.specs.contracts.fold.Fold as Fold
use Rattle.dz_settings.specs.contracts.config.Config as Config
use Rattle.dz_settings.specs.contracts.config.CatalogSettings as Catalog
use Rattle.dz_table.specs.contracts.table.Table as Table
use Rattle.dz_table.specs.contracts.slot.Slot as Slot
use Rattle.dz_zone.specs.contracts.version.Version as Version
use Rattle.dz_history.specs.contracts.holdings.Holdings as Holdings
use Rattle.dz_history.specs.contracts.history.History as History
use Rattle.dz_timer.specs.contracts.schedule.Schedule as Schedule
use Rattle.dz_fleet.specs.contracts.flight.Flying as Flying
use Rattle.dz_fleet.specs.contracts.fleet.Last as Last
use Rattle.dz_fleet.specs.contracts.fleet.Fleet as Fleet
use Rattle.dz_member.specs.contracts.membership.Membership as Membership
use Rattle.dz_member.specs.contracts.known.Known as Known
use Rattle.dz_member.specs.contracts.listing.Node as Node
use Rattle.dz_member.specs.contracts.nodes.Nodes as Nodes
use Rattle.dz_member.specs.contracts.members.Members as Members
use Rattle.dz_desk.specs.contracts.publisher.Publisher as Publisher
use Rattle.dz_io.specs.declared.device.Sink as sink
use Rattle.dz_disk.specs.declared.disk.Disk as disk
use Rattle.dz_provision.specs.declared.naming.Naming as naming
use Rattle.dz_provision.specs.contracts.provisioner.Provisioner as Provisioner
use Rattle.dz_provision.specs.contracts.shared.Locked as Locked
use Rattle.dz_provision.specs.contracts.kept_jobs.Keeping as Keeping
use Rattle.dz_store.specs.contracts.store.Store as Store

name_send : IsSend KeptName.the_row
name_send = search (sendable, crosses, maps.crosses) depth 40 fits 5000

name_sync : IsSync KeptName.the_row
name_sync = search (sendable, crosses, maps.crosses) depth 40 fits 5000

version_send : IsSend Version.the_row
version_send = search (sendable, crosses, maps.crosses) depth 40 fits 5000

version_sync : IsSync Version.the_row
version_sync = search (sendable, crosses, maps.crosses) depth 40 fits 5000

slot_send : IsSend Slot.the_row
slot_send =
    search (sendable, crosses, maps.crosses, name_send, name_sync, version_send, version_sync) depth 40 fits 5000

slot_sync : IsSync Slot.the_row
slot_sync =
    search (sendable, crosses, maps.crosses, name_send, name_sync, version_send, version_sync) depth 40 fits 5000

table_send : IsSend Table.the_row
table_send = search (sendable, crosses, maps.crosses, slot_send, slot_sync) depth 40 fits 5000

table_sync : IsSync Table.the_row
table_sync = search (sendable, crosses, maps.crosses, slot_send, slot_sync) depth 40 fits 5000

catalog_send : IsSend Catalog.the_row
catalog_send = search (sendable, crosses, maps.crosses) depth 40 fits 5000

catalog_sync : IsSync Catalog.the_row
catalog_sync = search (sendable, crosses, maps.crosses) depth 40 fits 5000

config_send : IsSend Config.the_row
config_send = search (sendable, crosses, maps.crosses, catalog_send, catalog_sync) depth 40 fits 5000

config_sync : IsSync Config.the_row
config_sync = search (sendable, crosses, maps.crosses, catalog_send, catalog_sync) depth 40 fits 5000

member_send : IsSend Membership.the_row
member_send = search (sendable, crosses, maps.crosses) depth 40 fits 5000

member_sync : IsSync Membership.the_row
member_sync = search (sendable, crosses, maps.crosses) depth 40 fits 5000

members_send : IsSend Members.the_row
members_send = search (sendable, crosses, maps.crosses, member_send, member_sync) depth 40 fits 5000

members_sync : IsSync Members.the_row
members_sync = search (sendable, crosses, maps.crosses, member_send, member_sync) depth 40 fits 5000

node_send : IsSend Node.the_row
node_send = search (sendable, crosses, maps.crosses, name_send, name_sync) depth 40 fits 5000

node_sync : IsSync Node.the_row
node_sync = search (sendable, crosses, maps.crosses, name_send, name_sync) depth 40 fits 5000

nodes_send : IsSend Nodes.the_row
nodes_send = search (sendable, crosses, maps.crosses, node_send, node_sync) depth 40 fits 5000

nodes_sync : IsSync Nodes.the_row
nodes_sync = search (sendable, crosses, maps.crosses, node_send, node_sync) depth 40 fits 5000

known_send : IsSend Known.the_row
known_send = search (sendable, crosses, maps.crosses, nodes_send, nodes_sync) depth 40 fits 5000

known_sync : IsSync Known.the_row
known_sync = search (sendable, crosses, maps.crosses, nodes_send, nodes_sync) depth 40 fits 5000

fold_send : IsSend Fold.the_row
fold_send = search (
  sendable,
  crosses,
  maps.crosses,
  config_send,
  config_sync,
  members_send,
  members_sync,
  known_send,
  known_sync,
) depth 40 fits 5000

fold_sync : IsSync Fold.the_row
fold_sync = search (
  sendable,
  crosses,
  maps.crosses,
  config_send,
  config_sync,
  members_send,
  members_sync,
  known_send,
  known_sync,
) depth 40 fits 5000

holdings_send : IsSend Holdings.the_row
holdings_send = search (
  sendable,
  crosses,
  maps.crosses,
  fold_send,
  fold_sync,
  table_send,
  table_sync,
  version_send,
  version_sync,
) depth 40 fits 5000

history_send : IsSend History.the_row
history_send = search (sendable, crosses, maps.crosses) depth 40 fits 5000

schedule_send : IsSend Schedule.the_row
schedule_send = search (sendable, crosses, maps.crosses) depth 40 fits 5000

flying_send : IsSend Flying.the_row
flying_send = search (sendable, crosses, maps.crosses) depth 40 fits 5000

last_send : IsSend Last.the_row
last_send = search (sendable, crosses, maps.crosses) depth 40 fits 5000

pub fleet_send : IsSend Fleet.the_row
fleet_send = search
    (sendable, crosses, maps.crosses, holdings_send, history_send, schedule_send, flying_send, last_send) depth 30

-- and a provisioner with its output
pub provisioner_send : (K N : RattleType) (k : sink.Ghosts K.Denot) (n : naming.Ghosts N.Denot)
    (l : ledger.Ghosts N.Denot) → IsSend K → IsSend N → IsSend Publisher.the_row
    → IsSend (Provisioner.the_row K N k n l)
provisioner_send K N k n l sk sn sp =
    search (sendable, crosses, maps.crosses, fleet_send, book_send) depth 40 fits 20000

-- what a lock guards is shared where it may be sent
pub locked_sync : (P : RattleType) → IsSend P → IsSync (Locked.the_row P)
locked_sync P p = search (sendable, crosses) depth 20

pub store_send : (D : RattleType) (ghosts : disk.Ghosts D.Denot) → IsSend D → IsSend (Store.the_row D ghosts)
store_send D ghosts d = search (sendable, crosses, maps.crosses) depth 30

pub keeping_sync : (ν : NamedLft) (B S : RattleType) → IsSync B → IsSend S → IsSync (Keeping.the_row ν B S)
keeping_sync ν B S b s = search (sendable, crosses) depth 20
