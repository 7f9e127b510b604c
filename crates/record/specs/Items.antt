-- An item, in the codes that calls take, is `ItemCodes` of crate codes. Here: the transport that it is played from. Assumes nothing.
use Rattle.std.specs.Prelude.{Float}
use Rattle.std.specs.Float.{binary64}
use Rattle.std.specs.Float.Ieee.{of_bits}
use Rattle.floatlaws.specs.Numbers.{f64_0}
use Rattle.codes.specs.declared.TransportCodes.{TransportCodes}
use Rattle.codes.specs.declared.ItemCodes.{ItemCodes}

abbrev pub f64_48000 : Float
f64_48000 = of_bits binary64 0x40e7_7000_0000_0000

-- "Sample rate 48,000 is understood"; it plays from beat 0 and second 0
abbrev pub transport_of : ItemCodes → TransportCodes
transport_of i =
    record {
      sample_rate = f64_48000;
      tempo = i.tempo;
      beats_per_bar = i.beats_per_bar;
      playing = 1;
      beats = f64_0;
      seconds = f64_0;
      swing = i.swing;
      scale = i.scale;
    }
