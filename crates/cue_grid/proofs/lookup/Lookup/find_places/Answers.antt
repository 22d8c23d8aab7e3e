use Rattle.cue_grid.proofs.Prelude.{refl, sym, ap, subst, ◌∙◌, Some, None, vec_items, option_copied, formation_named, IsPlaced}
use Rattle.cue_grid.proofs.Tables.{no_formation, got}
use Rattle.cue_grid.proofs.Numbering.{places_found}
use Rattle.cue_grid.proofs.lookup.Lookup.find_places.Goals as goal

pub returns-in-None : goal.returns-in-None
returns-in-None c = no_formation _ _ _ _ refl c.args.self.now.formations_numbered (sym (ap option_copied c.in-None.is) ∙ c.get.ensures.value)

pub returns-in-None-get : goal.returns-in-None-get
returns-in-None-get c =
    places_found vec_items c.args.self.now.names.keys _ _ c.args.self.now.places.items _ _ c.in-Some.number.now None c.args.self.now.formations_numbered (sym (ap option_copied c.in-Some.is) ∙ c.get.ensures.value) c.args.self.now.places_numbered refl
    (sym (ap option_copied c.in-None-get.is) ∙ got _ _ _ c.get-in-Some.result c.as_slice.ensures.value c.get-in-Some.ensures.lookup.0 c.get-in-Some.ensures.lookup.1)

pub returns-in-Some-get : goal.returns-in-Some-get
returns-in-Some-get c =
    subst (λ ks. IsPlaced c.args.self.now.names.keys (formation_named c.args.self.now.show.now.formations c.args.name.now) ks) (sym c.as_slice-in-Some-get.ensures.value)
    (places_found vec_items c.args.self.now.names.keys _ _ c.args.self.now.places.items _ _ c.in-Some.number.now (Some c.in-Some-get.numbers) c.args.self.now.formations_numbered (sym (ap option_copied c.in-Some.is) ∙ c.get.ensures.value) c.args.self.now.places_numbered refl
    (sym (ap option_copied c.in-Some-get.is) ∙ got _ _ _ c.get-in-Some.result c.as_slice.ensures.value c.get-in-Some.ensures.lookup.0 c.get-in-Some.ensures.lookup.1))
