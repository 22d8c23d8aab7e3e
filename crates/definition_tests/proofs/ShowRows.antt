-- A text of each line of the language, line by line; its cues and its plan.
use Rattle.definition_tests.proofs.Prelude.{pos, negsuc, List, [], ◌∷◌, codes, arith, refl, All-cons, All-nil, digits, Line, DroneLine, Whole, IsItem, Item, StandsFor, Memory, Trajectory, Stray, Late, Drone, Formed, Figured, Blocks, ShowLaw, packet_at, packet_count, part_count, read_count, write_count, plan_text, spot}
use Rattle.choreo_reader.specs.Grammar.Item.{Ellipsoid}
use Rattle.definition_tests.specs.Shows.{CueRows, PlanRows, WholeRows, named, the_figure, the_formation, whole, whole_text}

-- the lines that have words
abbrev lines : List Line
lines =
    record { number = 3; words = codes "memory" ∷ codes "3" ∷ codes "16" ∷ [] } ∷
    record { number = 4; words = codes "trajectory" ∷ codes "4" ∷ [] } ∷
    record { number = 5; words = codes "ellipsoid" ∷ codes "100" ∷ codes "200" ∷ [] } ∷
    record { number = 6; words = codes "stray" ∷ codes "5" ∷ [] } ∷
    record { number = 7; words = codes "late" ∷ codes "6" ∷ [] } ∷
    record { number = 8; words = codes "drone" ∷ codes "a" ∷ codes "1" ∷ codes "-2" ∷ codes "3" ∷ codes "4" ∷ [] } ∷
    record { number = 9; words = codes "drone" ∷ codes "b" ∷ codes "0" ∷ codes "0" ∷ codes "0" ∷ codes "0" ∷ [] } ∷
    record { number = 10; words = codes "formation" ∷ codes "f" ∷ [] } ∷
    record { number = 11; words = codes "at" ∷ codes "b" ∷ codes "5" ∷ codes "6" ∷ codes "7" ∷ codes "8" ∷ [] } ∷
    record { number = 12; words = codes "end" ∷ [] } ∷
    record { number = 13; words = codes "figure" ∷ codes "g" ∷ codes "r" ∷ [] } ∷
    record { number = 14; words = codes "cue" ∷ codes "10" ∷ [] } ∷
    record { number = 15; words = codes "r" ∷ codes "turn" ∷ codes "900" ∷ [] } ∷
    record { number = 16; words = codes "r" ∷ codes "line" ∷ codes "1" ∷ codes "2" ∷ codes "3" ∷ codes "4" ∷ [] } ∷
    record { number = 17; words = codes "r" ∷ codes "move" ∷ codes "1" ∷ codes "2" ∷ codes "3" ∷ codes "4" ∷ [] } ∷
    record { number = 18; words = codes "r" ∷ codes "arc" ∷ codes "ccw" ∷ codes "1" ∷ codes "2" ∷ codes "3" ∷ [] } ∷
    record { number = 19; words = codes "r" ∷ codes "swing" ∷ codes "cw" ∷ codes "1" ∷ codes "2" ∷ codes "3" ∷ [] } ∷
    record { number = 20; words = codes "r" ∷ codes "arc_in" ∷ codes "cw" ∷ codes "1" ∷ codes "2" ∷ codes "3" ∷ [] } ∷
    record { number = 21; words = codes "r" ∷ codes "arc_out" ∷ codes "ccw" ∷ codes "1" ∷ codes "2" ∷ codes "3" ∷ [] } ∷
    record { number = 22; words = codes "r" ∷ codes "curve" ∷ codes "1" ∷ codes "2" ∷ codes "3" ∷ codes "4" ∷ codes "5" ∷ codes "6" ∷ codes "7" ∷ codes "8" ∷ codes "9" ∷ codes "10" ∷ [] } ∷
    record { number = 23; words = codes "end" ∷ [] } ∷
    record { number = 24; words = codes "end" ∷ [] } ∷
    record { number = 26; words = codes "cue" ∷ codes "20" ∷ [] } ∷
    record { number = 27; words = codes "form" ∷ codes "f" ∷ codes "move" ∷ [] } ∷
    record { number = 28; words = codes "a" ∷ codes "hold" ∷ [] } ∷
    record { number = 29; words = codes "end" ∷ [] } ∷
    record { number = 30; words = codes "repeat" ∷ codes "2" ∷ [] } ∷
    record { number = 31; words = codes "perform" ∷ codes "g" ∷ codes "x" ∷ codes "1" ∷ codes "9" ∷ codes "0" ∷ codes "0" ∷ codes "a" ∷ [] } ∷
    record { number = 32; words = codes "end" ∷ [] } ∷ []

-- the items of the text
abbrev first_drone : DroneLine
first_drone = record { line = 8; name = named (codes "a"); at = spot (pos 1) (negsuc 1) (pos 3) (pos 4) }

abbrev second_drone : DroneLine
second_drone = record { line = 9; name = named (codes "b"); at = spot (pos 0) (pos 0) (pos 0) (pos 0) }

abbrev from_formation : List Item
from_formation = Formed the_formation ∷ Figured the_figure ∷ Blocks whole.body ∷ []

abbrev from_drones : List Item
from_drones = Drone first_drone ∷ Drone second_drone ∷ from_formation

abbrev all_items : List Item
all_items = Memory 3 16 ∷ Trajectory 4 ∷ Ellipsoid 100 200 ∷ Stray 5 ∷ Late 6 ∷ from_drones

text_stands : StandsFor whole_text whole
text_stands = record {
  form = Whole;
  items = all_items;
  header = record { number = 1; words = codes "choreo" ∷ codes "1" ∷ [] };
  lines = lines;
  bytes = refl;
  cut = refl;
  first = refl;
  said = (
    record { number = tt; says = (refl, refl, (record { is = refl; from = omega arith; to = omega arith }, (record { is = refl; from = omega arith; to = omega arith }, tt))) },
    (
      record { number = tt; says = (refl, refl, (record { is = refl; from = omega arith; to = omega arith }, tt)) },
      (
        record { number = tt; says = (refl, refl, (record { is = refl; from = omega arith; to = omega arith }, (record { is = refl; from = omega arith; to = omega arith }, tt))) },
        (
          record { number = tt; says = (refl, refl, (record { is = refl; from = omega arith; to = omega arith }, tt)) },
          (
            record { number = tt; says = (refl, refl, (record { is = refl; from = omega arith; to = omega arith }, tt)) },
            (
              record { number = refl; says = (refl, refl, ((refl, refl), (record { is = refl; from = omega arith; to = omega arith }, (record { is = refl; from = omega arith; to = omega arith }, (record { is = refl; from = omega arith; to = omega arith }, (record { is = refl; from = omega arith; to = omega arith }, tt)))))) },
              (
                record { number = refl; says = (refl, refl, ((refl, refl), (record { is = refl; from = omega arith; to = omega arith }, (record { is = refl; from = omega arith; to = omega arith }, (record { is = refl; from = omega arith; to = omega arith }, (record { is = refl; from = omega arith; to = omega arith }, tt)))))) },
                (
                  record { number = refl; says = (refl, refl, ((refl, refl), tt)) },
                  (
                    record { number = refl; says = (refl, refl, ((refl, refl), (record { is = refl; from = omega arith; to = omega arith }, (record { is = refl; from = omega arith; to = omega arith }, (record { is = refl; from = omega arith; to = omega arith }, (record { is = refl; from = omega arith; to = omega arith }, tt)))))) },
                    (
                      record { number = tt; says = (refl, refl, tt) },
                      (
                        record { number = refl; says = (refl, refl, ((refl, refl), ((refl, refl), tt))) },
                        (
                          record { number = refl; says = (refl, refl, (record { is = refl; from = omega arith; to = omega arith }, tt)) },
                          (
                            record { number = refl; says = ((refl, refl), (refl, (record { is = refl; from = omega arith; to = omega arith }, tt))) },
                            (
                              record { number = refl; says = ((refl, refl), (refl, (record { is = refl; from = omega arith; to = omega arith }, (record { is = refl; from = omega arith; to = omega arith }, (record { is = refl; from = omega arith; to = omega arith }, (record { is = refl; from = omega arith; to = omega arith }, tt)))))) },
                              (
                                record { number = refl; says = ((refl, refl), (refl, (record { is = refl; from = omega arith; to = omega arith }, (record { is = refl; from = omega arith; to = omega arith }, (record { is = refl; from = omega arith; to = omega arith }, (record { is = refl; from = omega arith; to = omega arith }, tt)))))) },
                                (
                                  record { number = refl; says = ((refl, refl), (refl, (refl, (record { is = refl; from = omega arith; to = omega arith }, (record { is = refl; from = omega arith; to = omega arith }, (record { is = refl; from = omega arith; to = omega arith }, tt)))))) },
                                  (
                                    record { number = refl; says = ((refl, refl), (refl, (refl, (record { is = refl; from = omega arith; to = omega arith }, (record { is = refl; from = omega arith; to = omega arith }, (record { is = refl; from = omega arith; to = omega arith }, tt)))))) },
                                    (
                                      record { number = refl; says = ((refl, refl), (refl, (refl, (record { is = refl; from = omega arith; to = omega arith }, (record { is = refl; from = omega arith; to = omega arith }, (record { is = refl; from = omega arith; to = omega arith }, tt)))))) },
                                      (
                                        record { number = refl; says = ((refl, refl), (refl, (refl, (record { is = refl; from = omega arith; to = omega arith }, (record { is = refl; from = omega arith; to = omega arith }, (record { is = refl; from = omega arith; to = omega arith }, tt)))))) },
                                        (
                                          record { number = refl; says = ((refl, refl), (refl, (record { is = refl; from = omega arith; to = omega arith }, (record { is = refl; from = omega arith; to = omega arith }, (record { is = refl; from = omega arith; to = omega arith }, (record { is = refl; from = omega arith; to = omega arith }, (record { is = refl; from = omega arith; to = omega arith }, (record { is = refl; from = omega arith; to = omega arith }, (record { is = refl; from = omega arith; to = omega arith }, (record { is = refl; from = omega arith; to = omega arith }, (record { is = refl; from = omega arith; to = omega arith }, (record { is = refl; from = omega arith; to = omega arith }, tt)))))))))))) },
                                          (
                                            record { number = tt; says = (refl, refl, tt) },
                                            (
                                              record { number = tt; says = (refl, refl, tt) },
                                              (
                                                record { number = refl; says = (refl, refl, (record { is = refl; from = omega arith; to = omega arith }, tt)) },
                                                (
                                                  record { number = refl; says = (refl, refl, ((refl, refl), (refl, tt))) },
                                                  (
                                                    record { number = refl; says = ((refl, refl), (refl, tt)) },
                                                    (
                                                      record { number = tt; says = (refl, refl, tt) },
                                                      (
                                                        record { number = refl; says = (refl, refl, (record { is = refl; from = omega arith; to = omega arith }, tt)) },
                                                        (
                                                          record { number = refl; says = (refl, refl, ((refl, refl), (refl, (record { is = refl; from = omega arith; to = omega arith }, (record { is = refl; from = omega arith; to = omega arith }, (record { is = refl; from = omega arith; to = omega arith }, (record { is = refl; from = omega arith; to = omega arith }, ((refl, refl), tt)))))))) },
                                                          (
                                                            record { number = tt; says = (refl, refl, tt) },
                                                            tt,
                                                          ),
                                                        ),
                                                      ),
                                                    ),
                                                  ),
                                                ),
                                              ),
                                            ),
                                          ),
                                        ),
                                      ),
                                    ),
                                  ),
                                ),
                              ),
                            ),
                          ),
                        ),
                      ),
                    ),
                  ),
                ),
              ),
            ),
          ),
        ),
      ),
    ),
  );
  each = All-cons IsItem (Memory 3 16) (Trajectory 4 ∷ Ellipsoid 100 200 ∷ Stray 5 ∷ Late 6 ∷ from_drones) tt (All-cons IsItem (Trajectory 4) (Ellipsoid 100 200 ∷ Stray 5 ∷ Late 6 ∷ from_drones) tt (
      All-cons IsItem (Ellipsoid 100 200) (Stray 5 ∷ Late 6 ∷ from_drones) tt (All-cons IsItem (Stray 5) (Late 6 ∷ from_drones) tt (
      All-cons IsItem (Late 6) from_drones tt (All-cons IsItem (Drone first_drone) (Drone second_drone ∷ from_formation) tt (
      All-cons IsItem (Drone second_drone) from_formation tt (All-cons IsItem (Formed the_formation) (Figured the_figure ∷ Blocks whole.body ∷ []) (omega arith) (
      All-cons IsItem (Figured the_figure) (Blocks whole.body ∷ []) (refl, refl, refl, omega arith) (All-cons IsItem (Blocks whole.body) [] (refl, omega arith) (All-nil IsItem))))))))));
  single = record { memory = omega arith; trajectory = omega arith; ellipsoid = omega arith; stray = omega arith; late = omega arith };
  makes = refl;
}

pub wholes : ShowLaw → WholeRows
wholes law = record { stands = text_stands; alone = λ s also. law.one whole_text s whole also text_stands }

pub cues : CueRows
cues = record { cues = refl; starts = refl }

pub plans : PlanRows
unfolding digits plan_text packet_at packet_count part_count read_count write_count
plans = record { ten = refl; eleven = refl; nobody = refl }
