-- What stands under "absent", and what an array holds after the points: zeros. Assumes nothing.
use Rattle.floatlaws.specs.Numbers.{f32_0}
use Rattle.codes.specs.declared.ModCodes.{ModCodes}
use Rattle.codes.specs.declared.PointCodes.{PointCodes}
use Rattle.codes.specs.declared.PathPointCodes.{PathPointCodes}

abbrev pub blank_mod : ModCodes
blank_mod = record { code = 0; bus = 0; depth = f32_0 }

abbrev pub blank_point : PointCodes
blank_point = record { x = f32_0; y = f32_0; curve = f32_0; step = 0; x_mod = blank_mod; y_mod = blank_mod }

abbrev pub blank_path_point : PathPointCodes
blank_path_point = record { x = f32_0; y = f32_0; bend = f32_0; x_mod = blank_mod; y_mod = blank_mod }
