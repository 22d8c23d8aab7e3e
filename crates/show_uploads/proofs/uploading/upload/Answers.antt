use Rattle.show_uploads.proofs.Prelude.{List, ℕ, subst, part_of, behaves_of, upload_verb, IsInput-now, comes, UploadsText}
use Rattle.show_uploads.proofs.uploading.upload.Goals as goal

pub returns-clause-behaves : goal.returns-clause-behaves
returns-clause-behaves g c = record {
  gives = c.carry.ensures.gives;
  behaves = λ all is.
      behaves_of c.show_law.ensures (upload_verb c.args.depth c.args.start c.args.readback) (c.uploading_law.ensures c.args.depth c.args.start c.args.readback) _ c.carry.result
      (c.carry.ensures.runs all is) (c.carry.ensures.few all is) (λ alone reads judged. absurd (cc)) (c.carry.ensures.stops all is);
}

pub returns-clause-begun : goal.returns-clause-begun
returns-clause-begun g c = λ given is begun.
    let told = g.S.Source.told in
    subst (λ (input : List ℕ). UploadsText (part_of input)) (comes (told c.args.source.now) (told c.carry.new.source).given given is)
    (c.carry.ensures.begun (told c.carry.new.source).given (IsInput-now (told c.carry.new.source)) begun)
