use Rattle.dz_serve.proofs.ConfigLemmas.{all_read, config_allowed}
use Rattle.dz_serve.proofs.command.read_server_config.Goals as goal

pub returns-in-Ok-server_config_of-clause-allowed : goal.returns-in-Ok-server_config_of-clause-allowed
returns-in-Ok-server_config_of-clause-allowed g c =
    let read = c.in-Ok-server_config_of.ensures.0 in
    let server = c.in-Ok-server_config_of.server in
    config_allowed read.0 (server.listen, server.config) read.2

pub returns-in-Ok-server_config_of-clause-end : goal.returns-in-Ok-server_config_of-clause-end
returns-in-Ok-server_config_of-clause-end g c octets told =
    all_read octets c.in-Ok.text.items _ _ c.in-Ok.ensures.text
    (rw c.deref.ensures.value at c.in-Ok-server_config_of.ensures.0.1.short) told
