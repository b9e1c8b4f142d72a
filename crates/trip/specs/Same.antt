-- The lanes that a whole trip is lent: which ones they are.
use Rattle.std.specs.Prelude.{◌≡◌}
use Rattle.trip.specs.declared.Workspace.{Workspace}

-- lanes that are lent are still the same ones, whatever was written into them
pub record SameWork (before after : Workspace) : Type 0 where
  pub kept_speeds : after.kept_speeds.ghost_name ≡ before.kept_speeds.ghost_name
  pub kept_co2 : after.kept_co2.ghost_name ≡ before.kept_co2.ghost_name
  pub ends : after.ends.ghost_name ≡ before.ends.ghost_name
  pub ranks : after.ranks.ghost_name ≡ before.ranks.ghost_name
