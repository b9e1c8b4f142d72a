-- The answers for D of one second and for the percentile, as they cross.
use Rattle.std.specs.Prelude.{ℕ, suc, true, false, ℤ, pos, negsuc, Option, Some, None, Result, Ok, Err}
use Rattle.base.specs.Refusal.{Fault, accepted}
use Rattle.crossing.specs.declared.accelerations.AccelerationAnswer.{AccelerationAnswer}
use Rattle.crossing.specs.declared.accelerations.PercentileAnswer.{PercentileAnswer}

-- D crosses as how far it rises and how far it falls; one of the two is 0
unfoldable pub acceleration_across : Result (Option ℤ) Fault → AccelerationAnswer
acceleration_across (Ok (Some (pos d))) = record { refusal = accepted; has_d = true; rise = d; fall = 0; place = 0 }
acceleration_across (Ok (Some (negsuc d))) = record { refusal = accepted; has_d = true; rise = 0; fall = suc d; place = 0 }
acceleration_across (Ok None) = record { refusal = accepted; has_d = false; rise = 0; fall = 0; place = 0 }
acceleration_across (Err fault) = record { refusal = fault.number; has_d = false; rise = 0; fall = 0; place = fault.place }

unfoldable pub percentile_across : Result ℕ Fault → PercentileAnswer
percentile_across (Ok q) = record { refusal = accepted; q = q; place = 0 }
percentile_across (Err fault) = record { refusal = fault.number; q = 0; place = fault.place }
