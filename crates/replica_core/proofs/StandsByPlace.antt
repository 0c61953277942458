-- What a replica that stands for a part has of one origin.
use Rattle.std.proofs.Common.{◌≡◌, ℕ, ◌<◌, List, [], map, get_or, ap, ◌∙◌}
use Rattle.tact_base.proofs.ListLemmas.{get_or-map_range}
use Rattle.tact_base.specs.Covers.{no_cover}
use Rattle.tact_base.specs.declared.write.Cover.{Cover}
use Rattle.tact_base.specs.declared.write.Write.{Write}
use Rattle.run_model.specs.Histories.{last_moment}
use Rattle.run_model.specs.Taking.{log_of, cover_of}
use Rattle.run_model.specs.declared.entry.Entry.{Entry}
use Rattle.replica_core.specs.States.{Core, log_at, cover_at}
use Rattle.replica_core.specs.Stands.{WritesStand}

module _ (part : List Entry) (core : Core) (stand : WritesStand core.setup core.replica part core.writes) (origin : ℕ) (within : origin < core.setup.replicas) where
  pub log_at-part : log_at core origin ≡ log_of core.replica part origin
  log_at-part =
      ap (λ (logs : List (List Write)). get_or logs origin []) stand.logs
      ∙ get_or-map_range (log_of core.replica part) core.setup.replicas origin [] within

  pub cover_at-part : cover_at core origin ≡ cover_of core.replica part (last_moment part) origin
  cover_at-part =
      ap (λ (covers : List Cover). get_or covers origin no_cover) stand.covers
      ∙ get_or-map_range (cover_of core.replica part (last_moment part)) core.setup.replicas origin no_cover within

-- the stamps of covers
abbrev pub stamps_of : List Cover → List ℕ
stamps_of covers = map (λ cover. cover.stamp) covers
