use Rattle.upload_core.proofs.Prelude.{◌≢◌, ◌∙◌, ap, sym, refl, subst, List, All, All-nil, Sent, Going, HostState, IsPacketOf, view_of}
use Rattle.upload_model.specs.declared.events.Event.TheVariants as event
use Rattle.upload_core.proofs.Standing.{stands-ended, sent-ended}
use Rattle.upload_core.proofs.host.Host.hear.Goals as goal

pub returns-in_default : goal.returns-in_default
returns-in_default c =
    let ended : c.args.self.now.progress ≢ Going = λ g. c.in_default.not-Going (ap (λ (v : HostState). v.progress) c.self.view_is ∙ g) in
    record {
      session = refl;
      stands = λ h stands. stands-ended (view_of c.args.self.now) h (event.Up c.args.drone c.args.packet.now) ended stands;
      sent = λ h stands. c.clear.ensures ∙ sym (sent-ended (view_of c.args.self.now) h (event.Up c.args.drone c.args.packet.now) ended stands);
      known = subst (λ (xs : List Sent). All (IsPacketOf c.args.self.now.session) xs) (sym c.clear.ensures) (All-nil (IsPacketOf c.args.self.now.session));
      answer = λ h stands. ap (λ (v : HostState). v.progress) c.self.view_is ∙ (stands-ended (view_of c.args.self.now) h (event.Up c.args.drone c.args.packet.now) ended stands).answer;
    }
