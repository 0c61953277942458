-- The message that a replica sends, from what it keeps.
use Rattle.std.specs.Prelude.{ℕ, ◌==◌, List, length, map, slice_index, if◌then◌else◌}
use Rattle.tact_base.specs.Counts.{first_index}
use Rattle.tact_base.specs.declared.write.Cover.{Cover}
use Rattle.tact_base.specs.declared.write.Write.{Write}
use Rattle.tact_base.specs.Setup.{conits_of}
use Rattle.split_budget.specs.Budgets.{lent_to, returned_to}
use Rattle.run_model.specs.declared.entry.Message.{Message}
use Rattle.replica_core.specs.States.{Core, log_at, cover_at, known_at, own_cover, origins_of}
use Rattle.replica_core.specs.Told.{told_before}

-- the cover that it tells of an origin: of itself its own state at a moment
abbrev pub cover_told : Core → ℕ → ℕ → Cover
cover_told core moment origin = if origin == core.replica then own_cover core moment else cover_at core origin

-- where the writes of an origin that it tells another begin
abbrev pub first_told : Core → ℕ → List ℕ → ℕ → ℕ
first_told core to given origin =
    first_index to origin (length (log_at core origin)) (known_at core to origin) (slice_index given origin)

-- of each origin the writes from these firsts on, as many as a message has room for
abbrev pub writes_told : Core → List ℕ → List Write
writes_told core firsts = told_before core.writes.logs firsts core.setup.replicas

-- its next message
abbrev pub next_message : Core → ℕ → ℕ → List ℕ → Message
next_message core moment to given =
    let firsts = map (first_told core to given) (origins_of core) in
    record {
      from = core.replica;
      to = to;
      number = core.counts.sends;
      haves = map (λ origin. length (log_at core origin)) (origins_of core);
      covers = map (cover_told core moment) (origins_of core);
      firsts = firsts;
      writes = writes_told core firsts;
      lent = map (lent_to core.budgets to) (conits_of core.setup);
      returned = map (returned_to core.budgets to) (conits_of core.setup);
    }
