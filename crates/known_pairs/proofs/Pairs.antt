-- Each of document 01's starred pairs, by computing the definitions that it speaks of.
use mathlib.Core.Path.{refl}
use Rattle.known_pairs.specs.Pairs.{KnownPairs}
use Rattle.known_pairs.proofs.Everything.{everything}

pub known_pairs : KnownPairs
unfolding everything
known_pairs = record {
  info_symbol = refl;
  info_kind = refl;
  info_joined = refl;
  end_sixteen = refl;
  end_none = refl;
  end_one = refl;
  offset_moves = refl;
  offset_stays = refl;
  found_from_0 = refl;
  found_from_2 = refl;
  first_of_two = refl;
  second_of_two = refl;
  word_zeroed = refl;
  one_dummy_lem = refl;
  twelve_four = refl;
  twelve_eight = refl;
  sixteen_eight = refl;
  statics_sound = refl;
  statics_counted = refl;
  static_plain = refl;
  symbol_order = refl;
  symbol_count_lem = refl;
  symbol_info_lem = refl;
  foo_sound = refl;
  foo_once = refl;
  foo_count = refl;
  foo_twice = refl;
}
